-- Layouts of a netlist in rows, with routes over them.
use Rattle.std.specs.Prelude.{◌≡◌, ℕ, List}
use Rattle.machine_core.specs.Machine.{Machine}
use Rattle.sym_geom.specs.declared.item.Instance.{Instance}
use Rattle.cell_model.specs.Library.{Library}
use Rattle.net_meaning.specs.Netlist.{AbstractNetlist}
use Rattle.net_meaning.specs.Order.{IsInNetlistOrder}
use Rattle.ap_io.specs.declared.figure.Figure.{Figure}
use Rattle.ap_io.specs.ApText.{IsApText, IsApLines}
use Rattle.ocp_rows.specs.Placement.{Placement}
use Rattle.ocp_rows.specs.Tracks.{IsTrackRow}
use Rattle.ocp_place.specs.Nets.{net_number}
use Rattle.ocp_anneal.specs.Rows.{IsGoodPlacement}
use Rattle.grid_core.specs.Routes.{NetRoutes}
use Rattle.maze_drawing.specs.Wiring.{Wiring}
use Rattle.maze_drawing.specs.Law.{IsRouted, maze_items}
use Rattle.nero_nets.specs.Routed.{AreInOrder}
use Rattle.flow_run.specs.Route.{InRows, Route, on_tracks, over_rows}

-- A placement as it is asked for; its nets are routed over it on metals up to this one, whole or not, and these are the wires and vias of
-- their trees.
pub record IsOverRows (n : AbstractNetlist) (l : Library) (p : Placement) (a : InRows) (instances : List Instance) (routes : NetRoutes)
    (wiring : Wiring) : Type 0 where
  pub good : IsGoodPlacement n l a.rows a.seed a.moves p
  pub routed : IsRouted n l (net_number n l) p instances a.metals routes wiring

-- The lines of a figure are those of such a placement with the wires and vias of its nets, which were routed by half perimeter, then by
-- number, each by least paths beside those before it, and whole.
pub record IsGridLayout (f : Figure) (n : AbstractNetlist) (l : Library) (p : Placement) (a : InRows) : Type 0 where
  pub instances : List Instance
  pub routes : NetRoutes
  pub wiring : Wiring
  pub over : IsOverRows n l p a instances routes wiring
  pub ordered : AreInOrder n l (net_number n l) p instances a.metals routes
  pub lines : f.items ≡ maze_items n l p instances wiring

-- A figure in rows, of a netlist whose instances stand in the order of one for the machine.
pub record IsRowLayout (f : Figure) (n : AbstractNetlist) (l : Library) (m : Machine) (p : Placement) (buffers : ℕ) (a : InRows) : Type 0 where
  pub order : IsInNetlistOrder n l m buffers
  pub grid : IsGridLayout f n l p a

-- ---- by the way in which nets are routed

-- one row in the order of the netlist, for tracks; or rows with routes over them
abbrev pub IsLaidBy : Route → Figure → AbstractNetlist → Library → Machine → Placement → ℕ → Type 0
IsLaidBy on_tracks f n l m p buffers = IsTrackRow n l m p buffers
IsLaidBy (over_rows a) f n l m p buffers = IsRowLayout f n l m p buffers a

-- The bytes are the ap file of a figure. A file of tracks is also within the limit of files that tools read; one of routes over rows has
-- as many lines as the nets need.
abbrev pub IsLayoutText : Route → List ℕ → Figure → Type 0
IsLayoutText on_tracks bytes f = IsApText bytes f
IsLayoutText (over_rows a) bytes f = IsApLines bytes f
