use Rattle.std.proofs.Common.{rules, ◌≡◌, ◌∙◌, sym, ap, subst}
use Rattle.grammar_theory.specs.Outcome.{start}
use Rattle.fsm_text.specs.Written.{machine_view}
use Rattle.fsm_text.specs.Texts.{PassesBefore, IsRefusedMachine}
use Rattle.fsm_text.proofs.Whole.{is_machine, chained_whole, stops_text}
use Rattle.fsm_text.proofs.States.{has_state}
use Rattle.fsm_text.proofs.Short.{short_machine}
use Rattle.fsm_text.proofs.machine.read_machine.Goals as goal

-- the entity, the architecture and nothing behind it were read, and an assignment is one too many
pub returns-then-branch-clause-refused : goal.returns-then-branch-clause-refused
returns-then-branch-clause-refused c =
    let tokens = c.args.tokens.now in
    let before : PassesBefore tokens 0 = search rules in
    subst (IsRefusedMachine tokens) (sym c.too_long_chain.ensures)
    (chained_whole tokens c.new-cursor.result c.whole.new.cursor (machine_view c.in-Ok.file) (c.new-cursor.ensures ∙ ap start c.as_slice.ensures) c.in-Ok.ensures before)

-- none is
pub returns-in-Ok-clause-accepted : goal.returns-in-Ok-clause-accepted
returns-in-Ok-clause-accepted c =
    let few : PassesBefore c.args.tokens.now 0 → ⊥ = search rules in
    is_machine c.args.tokens.now c.new-cursor.result c.whole.new.cursor (machine_view c.in-Ok.file) (c.new-cursor.ensures ∙ ap start c.as_slice.ensures) c.in-Ok.ensures few

pub returns-in-Ok-clause-some_state : goal.returns-in-Ok-clause-some_state
returns-in-Ok-clause-some_state c =
    let few : PassesBefore c.args.tokens.now 0 → ⊥ = search rules in
    has_state c.args.tokens.now (machine_view c.in-Ok.file)
    (is_machine c.args.tokens.now c.new-cursor.result c.whole.new.cursor (machine_view c.in-Ok.file) (c.new-cursor.ensures ∙ ap start c.as_slice.ensures) c.in-Ok.ensures few)

pub returns-in-Ok-clause-short : goal.returns-in-Ok-clause-short
returns-in-Ok-clause-short c =
    let few : PassesBefore c.args.tokens.now 0 → ⊥ = search rules in
    short_machine c.args.tokens.now (machine_view c.in-Ok.file)
    (is_machine c.args.tokens.now c.new-cursor.result c.whole.new.cursor (machine_view c.in-Ok.file) (c.new-cursor.ensures ∙ ap start c.as_slice.ensures) c.in-Ok.ensures few)

-- the grammar refuses them
pub refused-requires : goal.refused-requires
refused-requires c = stops_text c.args.tokens.now c.new-cursor.result c.in-Err.stop (c.new-cursor.ensures ∙ ap start c.as_slice.ensures) c.in-Err.ensures
