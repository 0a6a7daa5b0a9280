use Rattle.std.proofs.Common.{arith}
use Rattle.row_descent.specs.declared.span.Span.{Span}
use Rattle.row_descent.proofs.Starting.{sum_fits}
use Rattle.row_descent.proofs.start.total_of.Goals as goal

pub overflow_add-total : goal.overflow_add-total
overflow_add-total c =
    let none : Span = record { low = 0; high = 0 } in
    let a = sum_fits c.args.spans.now c.loop-span.span-index none c.requires.near c.requires.few c.loop-span-test.true in
    record { fits = omega arith }
