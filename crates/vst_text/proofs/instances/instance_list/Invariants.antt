use Rattle.std.proofs.Common.{[], ◌∷◌, length}
use Rattle.grammar_theory.specs.declared.form.Form.TheVariants as form
use Rattle.grammar_theory.specs.Tokens.{code}
use Rattle.grammar_theory.specs.Outcome.{list_at}
use Rattle.grammar_theory.proofs.Listing.{Listed}
use Rattle.vst_text.specs.VstReading.{instance_statement_at}
use Rattle.vst_text.proofs.instances.instance_list.Given as goal

abbrev pub invariant-loop-cursor : goal.invariant-loop-cursor
invariant-loop-cursor l = Listed (code form.Identifier ∷ []) (instance_statement_at l.room) l.instances.items l.cursor (list_at (code form.Identifier ∷ []) (instance_statement_at l.room) l.initial.cursor)

abbrev pub decreases-loop-cursor : goal.decreases-loop-cursor
decreases-loop-cursor l = length l.cursor.rest
