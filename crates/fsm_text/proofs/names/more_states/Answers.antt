use Rattle.std.proofs.Common.{rules, ◌≡◌, ◌++◌, ◌∙◌, [], ◌∷◌, true, false, Ok}
use Rattle.std.proofs.lemmas.Result.{err_from_is_err_and}
use Rattle.vhdl_token.specs.declared.token.Sign.TheVariants as sign
use Rattle.grammar_theory.specs.declared.form.Form.TheVariants as form
use Rattle.grammar_theory.specs.Tokens.{code, is_at, among}
use Rattle.grammar_theory.specs.Outcome.{Fails, list_at, with_front}
use Rattle.grammar_theory.proofs.Bundle.{among_one}
use Rattle.grammar_theory.proofs.Listing.{list_begins_with, list_goes_on, list_fails, list_ends}
use Rattle.fsm_text.specs.FsmReading.{next_state_at}
use Rattle.fsm_text.proofs.FsmLanguage.{next_state_consumes}
use Rattle.fsm_text.proofs.names.more_states.Goals as goal

pub loop-cursor-init : goal.loop-cursor-init
loop-cursor-init c =
    let e : c.push.new.self.items ≡ c.args.first ∷ [] = search rules in
    rw e (list_begins_with (code (form.Sign sign.Bar) ∷ []) next_state_at (c.args.first ∷ []) c.args.cursor.now)

pub returns-in_err-next : goal.returns-in_err-next
returns-in_err-next c =
    let p = err_from_is_err_and c.from_residual-in_err-next.result c.from_residual-in_err-next.ensures.1 in
    let here = c.loop-cursor.cursor in
    let at : is_at (form.Sign sign.Bar) c.loop-cursor.cursor.rest ≡ true = search rules in
    let any : among (code (form.Sign sign.Bar) ∷ []) c.loop-cursor.cursor.rest ≡ true = among_one (form.Sign sign.Bar) c.loop-cursor.cursor.rest ∙ at in
    let read : Fails c.in_err-next.field-0.0 (next_state_at here) = search rules in
    rw (p.1, p.2) (list_fails (code (form.Sign sign.Bar) ∷ []) next_state_at c.loop-cursor.states.items here (with_front (c.args.first ∷ []) (list_at (code (form.Sign sign.Bar) ∷ []) next_state_at c.args.cursor.now)) c.loop-cursor.invariant any c.in_err-next.field-0.0 read)

pub loop-cursor-preserved : goal.loop-cursor-preserved
loop-cursor-preserved c =
    let here = c.loop-cursor.cursor in
    let there = c.next_state.new.cursor in
    let at : is_at (form.Sign sign.Bar) c.loop-cursor.cursor.rest ≡ true = search rules in
    let any : among (code (form.Sign sign.Bar) ∷ []) c.loop-cursor.cursor.rest ≡ true = among_one (form.Sign sign.Bar) c.loop-cursor.cursor.rest ∙ at in
    let read : next_state_at here ≡ Ok (c.in_ok-next.next, there) = search rules in
    let e : c.push-in-loop-cursor.new.self.items ≡ c.loop-cursor.states.items ++ c.in_ok-next.next ∷ [] = search rules in
    rw e (list_goes_on (code (form.Sign sign.Bar) ∷ []) next_state_at c.loop-cursor.states.items here (with_front (c.args.first ∷ []) (list_at (code (form.Sign sign.Bar) ∷ []) next_state_at c.args.cursor.now)) c.loop-cursor.invariant any c.in_ok-next.next there read (next_state_consumes here there c.in_ok-next.next read))

pub loop-cursor-smaller : goal.loop-cursor-smaller
loop-cursor-smaller c =
    let here = c.loop-cursor.cursor in
    let there = c.next_state.new.cursor in
    let read : next_state_at here ≡ Ok (c.in_ok-next.next, there) = search rules in
    next_state_consumes here there c.in_ok-next.next read

pub returns : goal.returns
returns c =
    let at : is_at (form.Sign sign.Bar) c.loop-cursor.cursor.rest ≡ false = search rules in
    let any : among (code (form.Sign sign.Bar) ∷ []) c.loop-cursor.cursor.rest ≡ false = among_one (form.Sign sign.Bar) c.loop-cursor.cursor.rest ∙ at in
    list_ends (code (form.Sign sign.Bar) ∷ []) next_state_at c.loop-cursor.states.items c.loop-cursor.cursor (with_front (c.args.first ∷ []) (list_at (code (form.Sign sign.Bar) ∷ []) next_state_at c.args.cursor.now)) c.loop-cursor.invariant any
