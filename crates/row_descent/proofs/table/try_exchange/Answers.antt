use Rattle.std.proofs.Common.{◌+◌, ◌∙◌}
use Rattle.row_meaning.specs.Length.{block_of}
use Rattle.row_descent.specs.Tables.{rows_of}
use Rattle.row_descent.proofs.Orders.{left_again, taken, still_there, back_again}
use Rattle.row_descent.proofs.table.try_exchange.Goals as goal

pub exchange-requires-then-table-before-clause-place : goal.exchange-requires-then-table-before-clause-place
exchange-requires-then-table-before-clause-place c =
    still_there (rows_of c.args.rows.now) (rows_of c.exchange.new.rows) c.args.row c.args.place (c.args.place + 1) c.exchange.ensures.rows c.requires.place

pub returns-then-table-before-clause-rows : goal.returns-then-table-before-clause-rows
returns-then-table-before-clause-rows c =
    back_again (rows_of c.args.rows.now) (rows_of c.exchange.new.rows) (rows_of c.exchange-then-table-before.new.rows) c.args.row c.args.place c.exchange.ensures.rows
    c.exchange-then-table-before.ensures.rows
    ∙ left_again (block_of c.args.cells.now) (rows_of c.args.rows.now) c.args.row c.args.place c.args.table.now c.exchange.new.table (rows_of c.exchange.new.rows)
    c.requires.ready c.exchange.ensures.rows c.exchange.ensures.ready c.if-table-before.true

pub returns-else-table-before-clause-rows : goal.returns-else-table-before-clause-rows
returns-else-table-before-clause-rows c =
    taken (block_of c.args.cells.now) (rows_of c.args.rows.now) c.args.row c.args.place c.args.table.now c.exchange.new.table (rows_of c.exchange.new.rows)
    c.requires.ready c.exchange.ensures.rows c.exchange.ensures.ready c.if-table-before.false
