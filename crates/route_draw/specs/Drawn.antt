-- The figure of a netlist with private tracks.
use Rattle.std.specs.Prelude.{◌≡◌, [], Some}
use Rattle.vlsi_base.specs.Names.{scalar}
use Rattle.cell_model.specs.Library.{Library}
use Rattle.net_core.specs.Netlist.{Netlist as InMemory}
use Rattle.net_meaning.specs.Netlist.{AbstractNetlist}
use Rattle.net_meaning.specs.Breaches.{Breaches}
use Rattle.net_right.specs.View.{IsSeenAs}
use Rattle.ap_io.specs.declared.figure.Figure.{Figure}
use Rattle.ocp_rows.specs.Placement.{IsPlaced}
use Rattle.net_drawing.specs.Shown.{ShowsNetlist}
use Rattle.net_drawing.specs.Drawing.{track_items}
use Rattle.net_drawing.specs.Law.{one_row, track_box}
use Rattle.ocp_place.specs.Nets.{signal_ports, net_number}

-- It has the netlist's name, and its lines are those of the drawing with tracks. So terminals outside the classes of vdd and vss are
-- joined exactly where one class has them; a signal pin in one of these classes is joined to no other terminal; each pin of a supply is
-- joined to its port, and to no signal terminal; no rule is broken; and the figure is that of the instances in one row in the order of
-- the netlist.
pub record IsDrawnInTracks (l : Library) (n : InMemory) (f : Figure) : Type 0 where
  pub named : f.name ≡ Some (scalar n.name)
  pub lines : (k : AbstractNetlist) → IsSeenAs n k → f.items ≡ track_items k l (net_number k l) (signal_ports k)
  pub box : (k : AbstractNetlist) → IsSeenAs n k → f.bounds ≡ track_box k l
  pub shows : (k : AbstractNetlist) → IsSeenAs n k → ShowsNetlist f.items l k
  pub lawful : Breaches f.items l []
  pub placed : (k : AbstractNetlist) → IsSeenAs n k → IsPlaced f.bounds f.items k l (one_row k (signal_ports k))
