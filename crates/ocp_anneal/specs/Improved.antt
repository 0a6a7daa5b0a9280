-- Placements in memory that no exchange of neighbours makes shorter.
use Rattle.std.specs.Prelude.{ℕ}
use Rattle.cell_model.specs.Library.{Library}
use Rattle.net_core.specs.Netlist.{Netlist as InMemory}
use Rattle.net_meaning.specs.Netlist.{AbstractNetlist}
use Rattle.net_right.specs.View.{IsSeenAs}
use Rattle.ocp_place.specs.Placed.{InRow, rows_of}
use Rattle.row_bridge.specs.Improved.{IsBetter}

-- A placement of a netlist in memory is better than another: it is for each netlist of layouts that the one in memory is seen as.
abbrev pub IsImprovedPlacement : Library → InMemory → ℕ → ℕ → InRow → InRow → Type 0
IsImprovedPlacement l n seed moves old new = (k : AbstractNetlist) → IsSeenAs n k → IsBetter k l seed moves (rows_of k old) (rows_of k new)
