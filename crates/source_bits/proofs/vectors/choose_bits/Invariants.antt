use Rattle.std.proofs.Common.{◌≡◌, ◌++◌, map}
use Rattle.std.specs.Vec.Iter.{into_iter_items}
use Rattle.bool_expr.specs.Expression.{choice}
use Rattle.bool_expr.specs.View.{view}
use Rattle.source_bits.specs.Vectors.{each_two}
use Rattle.source_bits.proofs.vectors.choose_bits.Given as goal

abbrev pub invariant-loop-value : goal.invariant-loop-value
invariant-loop-value l =
    map view l.made.items ++ each_two (choice (view l.condition)) (map view (into_iter_items l.value-iterator)) (map view (into_iter_items l.others)) ≡ each_two (choice (view l.condition)) (map view l.fn.values.items) (map view l.fn.otherwise.items)
