use Rattle.std.proofs.Common.{rules, ◌≡◌, ◌++◌, [], ◌∷◌, true, false, Ok}
use Rattle.std.proofs.lemmas.Result.{err_from_is_err_and}
use Rattle.vhdl_token.specs.declared.keyword.Keyword.TheVariants as word
use Rattle.grammar_theory.specs.declared.form.Form.TheVariants as form
use Rattle.grammar_theory.specs.Tokens.{code, among}
use Rattle.grammar_theory.specs.Outcome.{Fails, list_at}
use Rattle.grammar_theory.proofs.Listing.{list_begins, list_goes_on, list_fails, list_ends}
use Rattle.vst_text.specs.VstReading.{declaration_at, declaration_list_at}
use Rattle.vst_text.proofs.VstLanguage.{declaration_consumes}
use Rattle.vst_text.proofs.declarations.declarations.Goals as goal

pub loop-cursor-init : goal.loop-cursor-init
unfolding declaration_list_at
loop-cursor-init c =
    let e : c.new-declarations.result.items ≡ [] = search rules in
    rw e (list_begins (code (form.Keyword word.Component) ∷ code (form.Keyword word.Signal) ∷ []) (declaration_at c.args.room) c.args.cursor.now)

pub returns-in_err-next : goal.returns-in_err-next
unfolding declaration_list_at
returns-in_err-next c =
    let p = err_from_is_err_and c.from_residual.result c.from_residual.ensures.1 in
    let here = c.loop-cursor.cursor in
    let any : among (code (form.Keyword word.Component) ∷ code (form.Keyword word.Signal) ∷ []) c.loop-cursor.cursor.rest ≡ true = search rules in
    let read : Fails c.in_err-next.field-0.0 ((declaration_at c.args.room) here) = search rules in
    rw (p.1, p.2) (list_fails (code (form.Keyword word.Component) ∷ code (form.Keyword word.Signal) ∷ []) (declaration_at c.args.room) c.loop-cursor.declarations.items here (list_at (code (form.Keyword word.Component) ∷ code (form.Keyword word.Signal) ∷ []) (declaration_at c.args.room) c.args.cursor.now) c.loop-cursor.invariant any c.in_err-next.field-0.0 read)

pub loop-cursor-preserved : goal.loop-cursor-preserved
unfolding declaration_list_at
loop-cursor-preserved c =
    let here = c.loop-cursor.cursor in
    let there = c.declaration.new.cursor in
    let any : among (code (form.Keyword word.Component) ∷ code (form.Keyword word.Signal) ∷ []) c.loop-cursor.cursor.rest ≡ true = search rules in
    let read : (declaration_at c.args.room) here ≡ Ok (c.in_ok-next.next, there) = search rules in
    let e : c.push.new.self.items ≡ c.loop-cursor.declarations.items ++ c.in_ok-next.next ∷ [] = search rules in
    rw e (list_goes_on (code (form.Keyword word.Component) ∷ code (form.Keyword word.Signal) ∷ []) (declaration_at c.args.room) c.loop-cursor.declarations.items here (list_at (code (form.Keyword word.Component) ∷ code (form.Keyword word.Signal) ∷ []) (declaration_at c.args.room) c.args.cursor.now) c.loop-cursor.invariant any c.in_ok-next.next there read (declaration_consumes c.args.room here there c.in_ok-next.next read))

pub loop-cursor-smaller : goal.loop-cursor-smaller
loop-cursor-smaller c =
    let here = c.loop-cursor.cursor in
    let there = c.declaration.new.cursor in
    let read : (declaration_at c.args.room) here ≡ Ok (c.in_ok-next.next, there) = search rules in
    declaration_consumes c.args.room here there c.in_ok-next.next read

pub returns : goal.returns
unfolding declaration_list_at
returns c =
    let any : among (code (form.Keyword word.Component) ∷ code (form.Keyword word.Signal) ∷ []) c.loop-cursor.cursor.rest ≡ false = search rules in
    list_ends (code (form.Keyword word.Component) ∷ code (form.Keyword word.Signal) ∷ []) (declaration_at c.args.room) c.loop-cursor.declarations.items c.loop-cursor.cursor (list_at (code (form.Keyword word.Component) ∷ code (form.Keyword word.Signal) ∷ []) (declaration_at c.args.room) c.args.cursor.now) c.loop-cursor.invariant any
