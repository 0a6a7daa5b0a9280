use Rattle.std.proofs.Common.{◌+◌}
use Rattle.row_meaning.specs.Length.{block_of}
use Rattle.row_descent.specs.Tables.{rows_of}
use Rattle.row_descent.proofs.Orders.{is_lower, is_not_lower, still_there, back_again}
use Rattle.row_descent.proofs.table.lowers.Goals as goal

pub returns-then-table-before-clause-value : goal.returns-then-table-before-clause-value
returns-then-table-before-clause-value c =
    is_lower (block_of c.args.cells.now) (rows_of c.args.rows.now) c.args.row c.args.place c.args.table.now c.exchange.new.table (rows_of c.exchange.new.rows)
    c.requires.ready c.exchange.ensures.rows c.exchange.ensures.ready c.if-table-before.true

pub exchange-requires-2-clause-place : goal.exchange-requires-2-clause-place
exchange-requires-2-clause-place c =
    still_there (rows_of c.args.rows.now) (rows_of c.exchange.new.rows) c.args.row c.args.place (c.args.place + 1) c.exchange.ensures.rows c.requires.place

pub returns-clause-value : goal.returns-clause-value
returns-clause-value c =
    is_not_lower (block_of c.args.cells.now) (rows_of c.args.rows.now) c.args.row c.args.place c.args.table.now c.exchange.new.table (rows_of c.exchange.new.rows)
    c.requires.ready c.exchange.ensures.rows c.exchange.ensures.ready c.if-table-before.false

pub returns-clause-rows : goal.returns-clause-rows
returns-clause-rows c =
    back_again (rows_of c.args.rows.now) (rows_of c.exchange.new.rows) (rows_of c.exchange-2.new.rows) c.args.row c.args.place c.exchange.ensures.rows c.exchange-2.ensures.rows
