use Rattle.std.proofs.Common.{◌≡◌, map}
use Rattle.vbe_text.specs.Source.{assignment_view}
use Rattle.vbe_free.specs.Filled.{filled_assignment}
use Rattle.vbe_free.proofs.filling.filled_assignments.Given as goal

abbrev pub invariant-loop-assignment : goal.invariant-loop-assignment
invariant-loop-assignment l = map assignment_view l.made.items ≡ map (λ x. filled_assignment l.bit (assignment_view x)) l.yielded
