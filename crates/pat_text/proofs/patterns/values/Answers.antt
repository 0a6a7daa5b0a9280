use Rattle.std.proofs.Common.{rules, ◌≡◌, ◌++◌, [], ◌∷◌, Ok}
use Rattle.std.proofs.lemmas.Result.{err_from_is_err_and}
use Rattle.vhdl_token.specs.declared.token.Sign.TheVariants as sign
use Rattle.grammar_theory.specs.declared.form.Form.TheVariants as form
use Rattle.grammar_theory.specs.Outcome.{Fails, take_at}
use Rattle.pat_text.specs.Reading.{value_at, values_at}
use Rattle.pat_text.proofs.Loops.{values_begin, values_go_on, values_fail, values_last, end_fails, end_taken}
use Rattle.pat_text.proofs.patterns.values.Goals as goal

pub loop-column-init : goal.loop-column-init
loop-column-init c =
    let e : c.new-values.result.items ≡ [] = search rules in
    rw e (values_begin c.args.columns.now c.args.cursor.now)

pub returns-in_err-next : goal.returns-in_err-next
returns-in_err-next c =
    let p = err_from_is_err_and c.from_residual.result c.from_residual.ensures.1 in
    let here = c.loop-column.cursor in
    let column = c.column-item.result in
    let read : Fails c.in_err-next.field-0.0 (value_at column.dir column.format here) = search rules in
    rw (p.1, p.2) (values_fail c.args.columns.now c.loop-column.column-index column c.loop-column.values.items here (values_at c.args.columns.now c.args.cursor.now) c.loop-column-test.true c.column-item.is c.loop-column.invariant c.in_err-next.field-0.0 read)

pub loop-column-preserved : goal.loop-column-preserved
loop-column-preserved c =
    let here = c.loop-column.cursor in
    let there = c.value.new.cursor in
    let column = c.column-item.result in
    let read : value_at column.dir column.format here ≡ Ok (c.in_ok-next.next, there) = search rules in
    let e : c.push.new.self.items ≡ c.loop-column.values.items ++ c.in_ok-next.next ∷ [] = search rules in
    rw e (values_go_on c.args.columns.now c.loop-column.column-index column c.loop-column.values.items here (values_at c.args.columns.now c.args.cursor.now) c.loop-column-test.true c.column-item.is c.loop-column.invariant c.in_ok-next.next there read)

pub returns-in_err-_end : goal.returns-in_err-_end
returns-in_err-_end c =
    let p = err_from_is_err_and c.from_residual-in_err-_end.result c.from_residual-in_err-_end.ensures.1 in
    let here = c.loop-column.cursor in
    let total = values_at c.args.columns.now c.args.cursor.now in
    let last = values_last c.args.columns.now c.loop-column.column-index c.loop-column.values.items here total c.loop-column-test.false c.loop-column.invariant in
    let read : Fails c.in_err-_end.field-0.0 (take_at (form.Sign sign.Semicolon) here) = search rules in
    rw (p.1, p.2) (end_fails c.loop-column.values.items here total last c.in_err-_end.field-0.0 read)

pub returns : goal.returns
returns c =
    let here = c.loop-column.cursor in
    let there = c.take.new.self in
    let total = values_at c.args.columns.now c.args.cursor.now in
    let last = values_last c.args.columns.now c.loop-column.column-index c.loop-column.values.items here total c.loop-column-test.false c.loop-column.invariant in
    let read : take_at (form.Sign sign.Semicolon) here ≡ Ok (c.in_ok-_end._end.now, there) = search rules in
    end_taken c.loop-column.values.items here total last c.in_ok-_end._end.now there read
