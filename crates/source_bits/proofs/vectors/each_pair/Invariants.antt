use Rattle.std.proofs.Common.{◌≡◌, ◌++◌, map}
use Rattle.std.specs.Vec.Iter.{into_iter_items}
use Rattle.bool_expr.specs.Expression.{pair}
use Rattle.bool_expr.specs.View.{view}
use Rattle.source_bits.specs.Vectors.{each_two}
use Rattle.source_bits.proofs.vectors.each_pair.Given as goal

abbrev pub invariant-loop-bit : goal.invariant-loop-bit
invariant-loop-bit l =
    map view l.made.items ++ each_two (pair l.gate) (map view (into_iter_items l.bit-iterator)) (map view (into_iter_items l.others)) ≡ each_two (pair l.gate) (map view l.fn.left.items) (map view l.fn.right.items)
