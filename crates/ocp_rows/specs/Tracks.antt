-- The placement of a netlist whose nets have private tracks.
use Rattle.std.specs.Prelude.{◌≡◌, ℕ, true, [], ◌∷◌}
use Rattle.machine_core.specs.Machine.{Machine}
use Rattle.cell_model.specs.Library.{Library}
use Rattle.net_meaning.specs.Netlist.{AbstractNetlist}
use Rattle.net_meaning.specs.Order.{IsInNetlistOrder}
use Rattle.ocp_rows.specs.Placement.{Placement}

-- One row of all instances in the order in which they stand in the netlist, which is that of a netlist for the machine.
pub record IsTrackRow (n : AbstractNetlist) (l : Library) (m : Machine) (p : Placement) (buffers : ℕ) : Type 0 where
  pub tracks : p.tracks ≡ true
  pub one_row : p.rows ≡ n.instances ∷ []
  pub order : IsInNetlistOrder n l m buffers
