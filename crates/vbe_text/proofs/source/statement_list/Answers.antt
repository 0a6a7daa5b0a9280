use Rattle.std.proofs.Common.{rules, ◌≡◌, ◌++◌, [], ◌∷◌, true, false, map, Ok}
use Rattle.std.proofs.lemmas.Result.{err_from_is_err_and}
use Rattle.std.proofs.lemmas.List.{map_push}
use Rattle.vhdl_token.specs.declared.keyword.Keyword.TheVariants as word
use Rattle.grammar_theory.specs.declared.form.Form.TheVariants as form
use Rattle.grammar_theory.specs.Tokens.{code, among}
use Rattle.grammar_theory.specs.Outcome.{Fails, list_at}
use Rattle.grammar_theory.proofs.Listing.{list_begins, list_goes_on, list_fails, list_ends}
use Rattle.vbe_text.specs.Source.{statement_view}
use Rattle.vbe_text.specs.VbeReading.{statement_at, statement_list_at}
use Rattle.vbe_text.proofs.VbeLanguage.{statement_consumes}
use Rattle.vbe_text.proofs.source.statement_list.Goals as goal

pub loop-cursor-init : goal.loop-cursor-init
unfolding statement_list_at
loop-cursor-init c =
    let e : map statement_view c.new-statements.result.items ≡ [] = search rules in
    rw e (list_begins (code (form.Keyword word.Assert) ∷ code form.Identifier ∷ []) (statement_at c.args.room) c.args.cursor.now)

pub returns-in_err-next : goal.returns-in_err-next
unfolding statement_list_at
returns-in_err-next c =
    let p = err_from_is_err_and c.from_residual.result c.from_residual.ensures.1 in
    let here = c.loop-cursor.cursor in
    let any : among (code (form.Keyword word.Assert) ∷ code form.Identifier ∷ []) c.loop-cursor.cursor.rest ≡ true = search rules in
    let read : Fails c.in_err-next.field-0.0 (statement_at c.args.room here) = search rules in
    rw (p.1, p.2) (list_fails (code (form.Keyword word.Assert) ∷ code form.Identifier ∷ []) (statement_at c.args.room) (map statement_view c.loop-cursor.statements.items) here
    (list_at (code (form.Keyword word.Assert) ∷ code form.Identifier ∷ []) (statement_at c.args.room) c.args.cursor.now) c.loop-cursor.invariant any c.in_err-next.field-0.0 read)

pub loop-cursor-preserved : goal.loop-cursor-preserved
unfolding statement_list_at
loop-cursor-preserved c =
    let any : among (code (form.Keyword word.Assert) ∷ code form.Identifier ∷ []) c.loop-cursor.cursor.rest ≡ true = search rules in
    let here = c.loop-cursor.cursor in
    let there = c.statement.new.cursor in
    let read : statement_at c.args.room here ≡ Ok (statement_view c.in_ok-next.next, there) = search rules in
    let e : map statement_view c.push.new.self.items ≡ map statement_view c.loop-cursor.statements.items ++ statement_view c.in_ok-next.next ∷ [] = rw c.in_ok-push.ensures.items (map_push statement_view c.loop-cursor.statements.items c.in_ok-next.next) in
    rw e (list_goes_on (code (form.Keyword word.Assert) ∷ code form.Identifier ∷ []) (statement_at c.args.room) (map statement_view c.loop-cursor.statements.items) here
    (list_at (code (form.Keyword word.Assert) ∷ code form.Identifier ∷ []) (statement_at c.args.room) c.args.cursor.now) c.loop-cursor.invariant any (statement_view c.in_ok-next.next) there read (statement_consumes c.args.room here there (statement_view c.in_ok-next.next) read))

pub loop-cursor-smaller : goal.loop-cursor-smaller
loop-cursor-smaller c =
    let any : among (code (form.Keyword word.Assert) ∷ code form.Identifier ∷ []) c.loop-cursor.cursor.rest ≡ true = search rules in
    let here = c.loop-cursor.cursor in
    let there = c.statement.new.cursor in
    let read : statement_at c.args.room here ≡ Ok (statement_view c.in_ok-next.next, there) = search rules in
    statement_consumes c.args.room here there (statement_view c.in_ok-next.next) read

pub returns : goal.returns
unfolding statement_list_at
returns c =
    let any : among (code (form.Keyword word.Assert) ∷ code form.Identifier ∷ []) c.loop-cursor.cursor.rest ≡ false = search rules in
    list_ends (code (form.Keyword word.Assert) ∷ code form.Identifier ∷ []) (statement_at c.args.room) (map statement_view c.loop-cursor.statements.items) c.loop-cursor.cursor
    (list_at (code (form.Keyword word.Assert) ∷ code form.Identifier ∷ []) (statement_at c.args.room) c.args.cursor.now) c.loop-cursor.invariant any
