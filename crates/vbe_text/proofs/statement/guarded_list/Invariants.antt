use Rattle.std.proofs.Common.{[], ◌∷◌, length, map}
use Rattle.grammar_theory.specs.declared.form.Form.TheVariants as form
use Rattle.grammar_theory.specs.Tokens.{code}
use Rattle.grammar_theory.specs.Outcome.{list_at}
use Rattle.grammar_theory.proofs.Listing.{Listed}
use Rattle.vbe_text.specs.Source.{assignment_view}
use Rattle.vbe_text.specs.VbeReading.{guarded_assignment_at}
use Rattle.vbe_text.proofs.statement.guarded_list.Given as goal

abbrev pub invariant-loop-cursor : goal.invariant-loop-cursor
invariant-loop-cursor l = Listed (code form.Identifier ∷ []) (guarded_assignment_at l.room) (map assignment_view l.assignments.items) l.cursor
    (list_at (code form.Identifier ∷ []) (guarded_assignment_at l.room) l.initial.cursor)

abbrev pub decreases-loop-cursor : goal.decreases-loop-cursor
decreases-loop-cursor l = length l.cursor.rest
