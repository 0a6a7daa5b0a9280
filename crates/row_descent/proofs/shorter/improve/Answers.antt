use Rattle.row_meaning.specs.Length.{block_of}
use Rattle.row_descent.specs.Tables.{rows_of}
use Rattle.row_descent.proofs.Moving.{improved}
use Rattle.row_descent.proofs.shorter.improve.Goals as goal

pub returns-clause-improved : goal.returns-clause-improved
returns-clause-improved c =
    improved (block_of c.args.cells.now) c.args.seed c.args.moves (rows_of c.args.rows.now) (rows_of c.try_moves.new.rows) (rows_of c.descend.new.rows)
    c.try_moves.ensures.rows c.descend.ensures.stable c.descend.ensures.lower c.descend.ensures.same
