use Rattle.std.proofs.Common.{◌≤◌, subst, sym, get_or, arith}
use Rattle.std.proofs.lemmas.List.Elements.{All-set}
use Rattle.row_descent.specs.declared.span.Span.{Span}
use Rattle.row_descent.specs.Spans.{limit}
use Rattle.row_descent.proofs.Totals.{refreshed_near, total_small}
use Rattle.row_descent.proofs.table.refresh.Goals as goal

fresh_near : (c : goal.After-from-2) → c.refreshed-fresh.result.high ≤ limit
fresh_near c =
    let none : Span = record { low = 0; high = 0 } in
    let P : Span → Type 0 = λ s. s.high ≤ limit in
    subst P (sym c.refreshed-fresh.ensures)
    (refreshed_near c.args.starts.now c.args.window.low c.args.window.high c.args.pins.now (get_or c.args.spans.now c.args.net none) c.requires.pins (c.requires.near c.args.net none c.requires.net))

pub overflow_add-total : goal.overflow_add-total
overflow_add-total c =
    let a = total_small c.args.spans.now c.requires.near c.requires.few in
    let b = fresh_near c in
    record { fits = omega arith }

pub returns-clause-near : goal.returns-clause-near
returns-clause-near c = All-set (λ (s : Span). s.high ≤ limit) c.args.spans.now c.args.net c.refreshed-fresh.result (fresh_near c) c.requires.near
