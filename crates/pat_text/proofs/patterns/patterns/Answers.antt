use Rattle.std.proofs.Common.{rules, ◌≡◌, ◌++◌, ◌∙◌, [], ◌∷◌, true, false, Ok}
use Rattle.std.proofs.lemmas.Result.{err_from_is_err_and}
use Rattle.vhdl_token.specs.declared.token.Sign.TheVariants as sign
use Rattle.grammar_theory.specs.declared.form.Form.TheVariants as form
use Rattle.grammar_theory.specs.Tokens.{code, is_at, among}
use Rattle.grammar_theory.specs.Outcome.{Fails, list_at}
use Rattle.grammar_theory.proofs.Bundle.{among_one}
use Rattle.grammar_theory.proofs.Listing.{list_begins, list_goes_on, list_fails, list_ends}
use Rattle.pat_text.specs.Reading.{pattern_at, patterns_at}
use Rattle.pat_text.proofs.PatLanguage.{pattern_consumes}
use Rattle.pat_text.proofs.patterns.patterns.Goals as goal

pub loop-cursor-init : goal.loop-cursor-init
loop-cursor-init c =
    let e : c.new-patterns.result.items ≡ [] = search rules in
    rw e (list_begins (code (form.Sign sign.Less) ∷ []) (pattern_at c.args.columns.now) c.args.cursor.now)

pub returns-in_err-next : goal.returns-in_err-next
unfolding patterns_at
returns-in_err-next c =
    let p = err_from_is_err_and c.from_residual.result c.from_residual.ensures.1 in
    let here = c.loop-cursor.cursor in
    let at : is_at (form.Sign sign.Less) c.loop-cursor.cursor.rest ≡ true = search rules in
    let any : among (code (form.Sign sign.Less) ∷ []) c.loop-cursor.cursor.rest ≡ true = among_one (form.Sign sign.Less) c.loop-cursor.cursor.rest ∙ at in
    let read : Fails c.in_err-next.field-0.0 ((pattern_at c.args.columns.now) here) = search rules in
    rw (p.1, p.2) (list_fails (code (form.Sign sign.Less) ∷ []) (pattern_at c.args.columns.now) c.loop-cursor.patterns.items here (list_at (code (form.Sign sign.Less) ∷ []) (pattern_at c.args.columns.now) c.args.cursor.now) c.loop-cursor.invariant any c.in_err-next.field-0.0 read)

pub loop-cursor-preserved : goal.loop-cursor-preserved
loop-cursor-preserved c =
    let here = c.loop-cursor.cursor in
    let there = c.pattern.new.cursor in
    let at : is_at (form.Sign sign.Less) c.loop-cursor.cursor.rest ≡ true = search rules in
    let read : (pattern_at c.args.columns.now) here ≡ Ok (c.in_ok-next.next, there) = search rules in
    let any : among (code (form.Sign sign.Less) ∷ []) c.loop-cursor.cursor.rest ≡ true = among_one (form.Sign sign.Less) c.loop-cursor.cursor.rest ∙ at in
    let e : c.push.new.self.items ≡ c.loop-cursor.patterns.items ++ c.in_ok-next.next ∷ [] = search rules in
    rw e (list_goes_on (code (form.Sign sign.Less) ∷ []) (pattern_at c.args.columns.now) c.loop-cursor.patterns.items here (list_at (code (form.Sign sign.Less) ∷ []) (pattern_at c.args.columns.now) c.args.cursor.now) c.loop-cursor.invariant any c.in_ok-next.next there read (pattern_consumes c.args.columns.now here there c.in_ok-next.next read))

pub loop-cursor-smaller : goal.loop-cursor-smaller
loop-cursor-smaller c =
    let here = c.loop-cursor.cursor in
    let there = c.pattern.new.cursor in
    let read : (pattern_at c.args.columns.now) here ≡ Ok (c.in_ok-next.next, there) = search rules in
    pattern_consumes c.args.columns.now here there c.in_ok-next.next read

pub returns : goal.returns
unfolding patterns_at
returns c =
    let at : is_at (form.Sign sign.Less) c.loop-cursor.cursor.rest ≡ false = search rules in
    list_ends (code (form.Sign sign.Less) ∷ []) (pattern_at c.args.columns.now) c.loop-cursor.patterns.items c.loop-cursor.cursor (list_at (code (form.Sign sign.Less) ∷ []) (pattern_at c.args.columns.now) c.args.cursor.now) c.loop-cursor.invariant (among_one (form.Sign sign.Less) c.loop-cursor.cursor.rest ∙ at)
