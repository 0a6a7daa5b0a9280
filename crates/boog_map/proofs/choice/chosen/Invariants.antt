use Rattle.std.proofs.Common.{ℕ, ◌<◌, get_or}
use Rattle.cell_model.specs.Cell.{Cell}
use Rattle.cell_model.proofs.KindLemmas.{IsCellOf}
use Rattle.boog_map.proofs.choice.chosen.Given as goal

abbrev pub invariant-loop-cell : goal.invariant-loop-cell
invariant-loop-cell l = (i : ℕ) (d : Cell) → i < l.cell-index → IsCellOf l.kind (get_or l.cells i d) → ⊥
