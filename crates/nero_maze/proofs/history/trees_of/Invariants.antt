use Rattle.std.proofs.Common.{◌≡◌, length}
use Rattle.nero_maze.specs.Board.{moves_in}
use Rattle.nero_maze.proofs.Telling.{Tells}
use Rattle.nero_maze.proofs.history.trees_of.Given as goal

abbrev pub invariant-loop-i : goal.invariant-loop-i
invariant-loop-i l = record {
  size : length l.trees.items ≡ l.nets;
  tells : Tells l.trees.items
      (moves_in l.board.room.grid l.board.room.owners.items l.board.room.links.items l.board.log.marks.items l.board.log.order.items l.i);
}
