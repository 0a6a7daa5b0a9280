use Rattle.std.proofs.Common.{◌≡◌, ◌≤◌, map, drop, length}
use Rattle.bool_expr.specs.View.{view}
use Rattle.source_bits.specs.Formulas.{alternatives_of}
use Rattle.source_bits.proofs.choices.chosen_bits.Given as goal

abbrev pub invariant-loop-left : goal.invariant-loop-left
invariant-loop-left l =
    (l.left ≤ length l.alternatives) × (map view l.made.items ≡ alternatives_of l.numbers (drop l.left l.alternatives) (map view l.fn.otherwise.items))

abbrev pub decreases-loop-left : goal.decreases-loop-left
decreases-loop-left l = l.left
