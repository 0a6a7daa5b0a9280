use Rattle.std.proofs.Common.{◌≡◌, ◌++◌, map, drop}
use Rattle.bool_expr.specs.View.{view}
use Rattle.source_checks.specs.Places.{in_assignments}
use Rattle.source_bits.specs.Driven.{stored_view, stored_in}
use Rattle.source_bits.proofs.driven.store_all.Given as goal

abbrev pub invariant-loop-assignment : goal.invariant-loop-assignment
invariant-loop-assignment l =
    map stored_view l.made.items ++ in_assignments (stored_in l.numbers (view l.enable)) (drop l.assignment-index l.assignments) ≡ map stored_view l.initial.made.items ++ in_assignments (stored_in l.numbers (view l.enable)) l.assignments
