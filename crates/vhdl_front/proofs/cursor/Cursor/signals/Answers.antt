use Rattle.std.proofs.Common.{rules, ◌≡◌, ◌++◌, ◌∙◌, [], ◌∷◌, true, false, Ok}
use Rattle.std.proofs.lemmas.Result.{err_from_is_err_and}
use Rattle.vhdl_token.specs.declared.keyword.Keyword.TheVariants as word
use Rattle.vhdl_token.specs.declared.token.Sign.TheVariants as sign
use Rattle.grammar_theory.specs.declared.form.Form.TheVariants as form
use Rattle.grammar_theory.specs.Tokens.{code, is_at, among}
use Rattle.grammar_theory.specs.Outcome.{Fails, list_at, with_front}
use Rattle.grammar_theory.proofs.Bundle.{among_one}
use Rattle.grammar_theory.proofs.Listing.{list_begins, list_begins_with, list_goes_on, list_fails, list_ends}
use Rattle.vhdl_front.specs.EntityReading.{signal_at, signals_at}
use Rattle.vhdl_front.proofs.EntityLanguage.{signal_consumes}
use Rattle.vhdl_front.proofs.cursor.Cursor.signals.Goals as goal

pub loop-self-init : goal.loop-self-init
unfolding signals_at
loop-self-init c =
    let e : c.new-signals.result.items ≡ [] = search rules in
    rw e (list_begins (code (form.Keyword word.Signal) ∷ []) (signal_at c.args.room) c.args.self.now)

pub returns-in_err-next : goal.returns-in_err-next
unfolding signals_at
returns-in_err-next c =
    let p = err_from_is_err_and c.from_residual.result c.from_residual.ensures.1 in
    let here = c.loop-self.self in
    let at : is_at (form.Keyword word.Signal) c.loop-self.self.rest ≡ true = search rules in
    let any : among (code (form.Keyword word.Signal) ∷ []) c.loop-self.self.rest ≡ true = among_one (form.Keyword word.Signal) c.loop-self.self.rest ∙ at in
    let read : Fails c.in_err-next.field-0.0 ((signal_at c.args.room) here) = search rules in
    rw (p.1, p.2) (list_fails (code (form.Keyword word.Signal) ∷ []) (signal_at c.args.room) c.loop-self.signals.items here (list_at (code (form.Keyword word.Signal) ∷ []) (signal_at c.args.room) c.args.self.now) c.loop-self.invariant any c.in_err-next.field-0.0 read)

pub loop-self-preserved : goal.loop-self-preserved
unfolding signals_at
loop-self-preserved c =
    let here = c.loop-self.self in
    let there = c.signal.new.self in
    let at : is_at (form.Keyword word.Signal) c.loop-self.self.rest ≡ true = search rules in
    let read : (signal_at c.args.room) here ≡ Ok (c.in_ok-next.next, there) = search rules in
    let any : among (code (form.Keyword word.Signal) ∷ []) c.loop-self.self.rest ≡ true = among_one (form.Keyword word.Signal) c.loop-self.self.rest ∙ at in
    let e : c.push.new.self.items ≡ c.loop-self.signals.items ++ c.in_ok-next.next ∷ [] = search rules in
    rw e (list_goes_on (code (form.Keyword word.Signal) ∷ []) (signal_at c.args.room) c.loop-self.signals.items here (list_at (code (form.Keyword word.Signal) ∷ []) (signal_at c.args.room) c.args.self.now) c.loop-self.invariant any c.in_ok-next.next there read (signal_consumes c.args.room here there c.in_ok-next.next read))

pub loop-self-smaller : goal.loop-self-smaller
loop-self-smaller c =
    let here = c.loop-self.self in
    let there = c.signal.new.self in
    let at : is_at (form.Keyword word.Signal) c.loop-self.self.rest ≡ true = search rules in
    let read : (signal_at c.args.room) here ≡ Ok (c.in_ok-next.next, there) = search rules in
    signal_consumes c.args.room here there c.in_ok-next.next read

pub returns : goal.returns
unfolding signals_at
returns c =
    let at : is_at (form.Keyword word.Signal) c.loop-self.self.rest ≡ false = search rules in
    list_ends (code (form.Keyword word.Signal) ∷ []) (signal_at c.args.room) c.loop-self.signals.items c.loop-self.self (list_at (code (form.Keyword word.Signal) ∷ []) (signal_at c.args.room) c.args.self.now) c.loop-self.invariant (among_one (form.Keyword word.Signal) c.loop-self.self.rest ∙ at)
