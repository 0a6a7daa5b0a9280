-- What the gates of a cover are to a machine.
use Rattle.std.specs.Prelude.{◌≡◌, ℕ, Bool, List, length, Option, Some}
use Rattle.bool_expr.specs.Expression.{Expression, val}
use Rattle.machine_core.specs.Machine.{Machine}
use Rattle.graph_theory.specs.Graph.{Graph, held_count, IsGraphOf}
use Rattle.graph_theory.specs.Maps.{IsCut}
use Rattle.cell_match.specs.declared.gate.CellWord.{CellWord}
use Rattle.cell_match.specs.declared.gate.Gate.{Gate}
use Rattle.boog_tight.specs.Cover.{gate_at}
use Rattle.cell_match.specs.Cells.{cell_value}
use Rattle.boog_cover.specs.Covered.{IsCovered}

-- the expression of a gate's cell gives the bit of its node from those of its leaves, in every cycle of the machine
abbrev pub CoveredIsCut : Type 0
CoveredIsCut = (m : Machine) (g : Graph) (cells : List CellWord) (roots : List ℕ) (gates : List (Option Gate)) (a : ℕ) (x : Gate) (e : Expression)
    → IsGraphOf m g → IsCovered cells (held_count m) g.nodes roots gates → gate_at gates a ≡ Some x
    → ((w : List Bool) → length w ≡ length x.leaves.items → val e w ≡ cell_value cells x.cell w)
    → IsCut m g a e x.leaves.items
