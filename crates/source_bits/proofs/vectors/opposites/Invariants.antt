use Rattle.std.proofs.Common.{◌≡◌, ◌++◌, map}
use Rattle.std.specs.Vec.Iter.{into_iter_items}
use Rattle.bool_expr.specs.Expression.{inverse}
use Rattle.bool_expr.specs.View.{view}
use Rattle.source_bits.proofs.vectors.opposites.Given as goal

abbrev pub invariant-loop-bit : goal.invariant-loop-bit
invariant-loop-bit l =
    map view l.made.items ++ map inverse (map view (into_iter_items l.bit-iterator)) ≡ map inverse (map view l.fn.bits.items)
