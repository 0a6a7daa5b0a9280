use Rattle.std.proofs.Common.{◌≡◌, ◌++◌, map}
use Rattle.std.specs.Vec.Iter.{into_iter_items}
use Rattle.bool_expr.specs.View.{view}
use Rattle.source_bits.specs.Driven.{stored_view, stored_pairs}
use Rattle.source_bits.proofs.driven.push_stored.Given as goal

abbrev pub invariant-loop-bit : goal.invariant-loop-bit
invariant-loop-bit l =
    map stored_view l.made.items ++ stored_pairs (view l.enable) (into_iter_items l.bit-iterator) (map view (into_iter_items l.rest)) ≡ map stored_view l.initial.made.items ++ stored_pairs (view l.enable) l.fn.bits.items (map view l.fn.exprs.items)
