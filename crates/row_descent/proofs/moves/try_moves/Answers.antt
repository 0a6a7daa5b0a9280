use Rattle.std.proofs.Common.{sym, ◌∙◌, arith}
use Rattle.rand_pcg.specs.Pcg.{pcg32}
use Rattle.row_meaning.specs.Length.{block_of}
use Rattle.row_descent.specs.Tables.{rows_of}
use Rattle.row_descent.proofs.Moving.{tried_more, tried_none}
use Rattle.row_descent.proofs.moves.try_moves.Goals as goal

pub loop-made-preserved : goal.loop-made-preserved
loop-made-preserved c = record {
  ready = c.make_move.ensures.ready;
  left =
      tried_more pcg32 (block_of c.args.cells.now) c.args.moves c.loop-made.made c.next_word-u.result c.next_word-v.result c.loop-made.generator c.next_word-u.new.self
      c.next_word-v.new.self (rows_of c.loop-made.rows) (rows_of c.make_move.new.rows) (omega arith) c.next_word-u.ensures c.next_word-v.ensures c.make_move.ensures.rows
      ∙ c.loop-made.invariant.left;
}

pub returns-clause-rows : goal.returns-clause-rows
returns-clause-rows c =
    sym (tried_none pcg32 (block_of c.args.cells.now) c.args.moves c.loop-made.made c.loop-made.generator (rows_of c.loop-made.rows) (omega arith))
    ∙ c.loop-made.invariant.left
