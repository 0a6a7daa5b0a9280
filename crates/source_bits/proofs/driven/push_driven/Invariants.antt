use Rattle.std.proofs.Common.{◌≡◌, ◌++◌, map}
use Rattle.std.specs.Vec.Iter.{into_iter_items}
use Rattle.bool_expr.specs.View.{view}
use Rattle.source_bits.specs.Driven.{driven_view, driven_pairs}
use Rattle.source_bits.proofs.driven.push_driven.Given as goal

abbrev pub invariant-loop-bit : goal.invariant-loop-bit
invariant-loop-bit l =
    map driven_view l.made.items ++ driven_pairs (into_iter_items l.bit-iterator) (map view (into_iter_items l.rest)) ≡ map driven_view l.initial.made.items ++ driven_pairs l.fn.bits.items (map view l.fn.exprs.items)
