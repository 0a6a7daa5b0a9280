use Rattle.std.proofs.Common.{rules, ◌≡◌, ◌++◌, ◌∙◌, [], ◌∷◌, true, false, Ok}
use Rattle.std.proofs.lemmas.Result.{err_from_is_err_and}
use Rattle.grammar_theory.specs.declared.form.Form.TheVariants as form
use Rattle.grammar_theory.specs.Tokens.{code, is_at, among}
use Rattle.grammar_theory.specs.Outcome.{Fails, list_at}
use Rattle.grammar_theory.proofs.Bundle.{among_one}
use Rattle.grammar_theory.proofs.Listing.{list_begins, list_goes_on, list_fails, list_ends}
use Rattle.vst_text.specs.VstReading.{instance_statement_at, instance_list_at}
use Rattle.vst_text.proofs.VstLanguage.{instance_consumes}
use Rattle.vst_text.proofs.instances.instance_list.Goals as goal

pub loop-cursor-init : goal.loop-cursor-init
unfolding instance_list_at
loop-cursor-init c =
    let e : c.new-instances.result.items ≡ [] = search rules in
    rw e (list_begins (code form.Identifier ∷ []) (instance_statement_at c.args.room) c.args.cursor.now)

pub returns-in_err-next : goal.returns-in_err-next
unfolding instance_list_at
returns-in_err-next c =
    let p = err_from_is_err_and c.from_residual.result c.from_residual.ensures.1 in
    let here = c.loop-cursor.cursor in
    let at : is_at form.Identifier c.loop-cursor.cursor.rest ≡ true = search rules in
    let any : among (code form.Identifier ∷ []) c.loop-cursor.cursor.rest ≡ true = among_one form.Identifier c.loop-cursor.cursor.rest ∙ at in
    let read : Fails c.in_err-next.field-0.0 ((instance_statement_at c.args.room) here) = search rules in
    rw (p.1, p.2) (list_fails (code form.Identifier ∷ []) (instance_statement_at c.args.room) c.loop-cursor.instances.items here (list_at (code form.Identifier ∷ []) (instance_statement_at c.args.room) c.args.cursor.now) c.loop-cursor.invariant any c.in_err-next.field-0.0 read)

pub loop-cursor-preserved : goal.loop-cursor-preserved
unfolding instance_list_at
loop-cursor-preserved c =
    let here = c.loop-cursor.cursor in
    let there = c.instance_statement.new.cursor in
    let at : is_at form.Identifier c.loop-cursor.cursor.rest ≡ true = search rules in
    let any : among (code form.Identifier ∷ []) c.loop-cursor.cursor.rest ≡ true = among_one form.Identifier c.loop-cursor.cursor.rest ∙ at in
    let read : (instance_statement_at c.args.room) here ≡ Ok (c.in_ok-next.next, there) = search rules in
    let e : c.push.new.self.items ≡ c.loop-cursor.instances.items ++ c.in_ok-next.next ∷ [] = search rules in
    rw e (list_goes_on (code form.Identifier ∷ []) (instance_statement_at c.args.room) c.loop-cursor.instances.items here (list_at (code form.Identifier ∷ []) (instance_statement_at c.args.room) c.args.cursor.now) c.loop-cursor.invariant any c.in_ok-next.next there read (instance_consumes c.args.room here there c.in_ok-next.next read))

pub loop-cursor-smaller : goal.loop-cursor-smaller
loop-cursor-smaller c =
    let here = c.loop-cursor.cursor in
    let there = c.instance_statement.new.cursor in
    let read : (instance_statement_at c.args.room) here ≡ Ok (c.in_ok-next.next, there) = search rules in
    instance_consumes c.args.room here there c.in_ok-next.next read

pub returns : goal.returns
unfolding instance_list_at
returns c =
    let at : is_at form.Identifier c.loop-cursor.cursor.rest ≡ false = search rules in
    let any : among (code form.Identifier ∷ []) c.loop-cursor.cursor.rest ≡ false = among_one form.Identifier c.loop-cursor.cursor.rest ∙ at in
    list_ends (code form.Identifier ∷ []) (instance_statement_at c.args.room) c.loop-cursor.instances.items c.loop-cursor.cursor (list_at (code form.Identifier ∷ []) (instance_statement_at c.args.room) c.args.cursor.now) c.loop-cursor.invariant any
