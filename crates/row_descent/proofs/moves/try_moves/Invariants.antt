use Rattle.std.proofs.Common.{◌≡◌, ◌-◌, ◌*◌}
use Rattle.rand_core.specs.Steps.{first_words}
use Rattle.rand_pcg.specs.Pcg.{pcg32}
use Rattle.row_meaning.specs.Length.{block_of, hp}
use Rattle.row_meaning.specs.Tried.{tried_by, tried}
use Rattle.row_descent.specs.Tables.{rows_of, IsReady}
use Rattle.row_descent.proofs.moves.try_moves.Given as goal

-- the moves that are left are made by the generator's next words
abbrev pub invariant-loop-made : goal.invariant-loop-made
invariant-loop-made l = record {
  ready : IsReady (block_of l.cells) (rows_of l.rows) l.table;
  left : tried_by (hp (block_of l.cells)) (first_words pcg32 (2 * (l.moves - l.made)) l.generator) (rows_of l.rows)
      ≡ tried (hp (block_of l.cells)) l.seed l.moves (rows_of l.fn.rows);
}
