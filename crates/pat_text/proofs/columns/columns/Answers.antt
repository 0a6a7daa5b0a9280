use Rattle.std.proofs.Common.{rules, ◌≡◌, ◌++◌, [], ◌∷◌, true, false, Ok}
use Rattle.std.proofs.lemmas.Result.{err_from_is_err_and}
use Rattle.grammar_theory.specs.Tokens.{among}
use Rattle.grammar_theory.specs.Outcome.{Fails, list_at}
use Rattle.grammar_theory.proofs.Listing.{list_begins, list_goes_on, list_fails, list_ends}
use Rattle.pat_text.specs.Reading.{column_at, columns_at, column_firsts}
use Rattle.pat_text.proofs.PatLanguage.{column_consumes}
use Rattle.pat_text.proofs.columns.columns.Goals as goal

pub loop-cursor-init : goal.loop-cursor-init
loop-cursor-init c =
    let e : c.new-columns.result.items ≡ [] = search rules in
    rw e (list_begins column_firsts column_at c.args.cursor.now)

pub returns-in_err-next : goal.returns-in_err-next
unfolding columns_at
returns-in_err-next c =
    let p = err_from_is_err_and c.from_residual.result c.from_residual.ensures.1 in
    let here = c.loop-cursor.cursor in
    let any : among column_firsts c.loop-cursor.cursor.rest ≡ true = search rules in
    let read : Fails c.in_err-next.field-0.0 (column_at here) = search rules in
    rw (p.1, p.2) (list_fails column_firsts column_at c.loop-cursor.columns.items here (list_at column_firsts column_at c.args.cursor.now) c.loop-cursor.invariant any c.in_err-next.field-0.0 read)

pub loop-cursor-preserved : goal.loop-cursor-preserved
loop-cursor-preserved c =
    let here = c.loop-cursor.cursor in
    let there = c.column.new.cursor in
    let read : column_at here ≡ Ok (c.in_ok-next.next, there) = search rules in
    let any : among column_firsts c.loop-cursor.cursor.rest ≡ true = search rules in
    let e : c.push.new.self.items ≡ c.loop-cursor.columns.items ++ c.in_ok-next.next ∷ [] = search rules in
    rw e (list_goes_on column_firsts column_at c.loop-cursor.columns.items here (list_at column_firsts column_at c.args.cursor.now) c.loop-cursor.invariant any c.in_ok-next.next there read (column_consumes here there c.in_ok-next.next read))

pub loop-cursor-smaller : goal.loop-cursor-smaller
loop-cursor-smaller c =
    let here = c.loop-cursor.cursor in
    let there = c.column.new.cursor in
    let read : column_at here ≡ Ok (c.in_ok-next.next, there) = search rules in
    column_consumes here there c.in_ok-next.next read

pub returns : goal.returns
unfolding columns_at
returns c =
    let any : among column_firsts c.loop-cursor.cursor.rest ≡ false = search rules in
    list_ends column_firsts column_at c.loop-cursor.columns.items c.loop-cursor.cursor (list_at column_firsts column_at c.args.cursor.now) c.loop-cursor.invariant any
