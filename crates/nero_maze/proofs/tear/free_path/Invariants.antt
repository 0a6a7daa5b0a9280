use Rattle.nero_maze.specs.Search.{reserved_in}
use Rattle.nero_maze.proofs.Freeing.{Walks, left_to_free}
use Rattle.nero_maze.proofs.tear.free_path.Given as goal

abbrev pub invariant-loop-next : goal.invariant-loop-next
invariant-loop-next l = Walks l.net (reserved_in l.fn.room.owners.items l.reserved.items) l.end l.fn.room l.room l.next

abbrev pub decreases-loop-next : goal.decreases-loop-next
decreases-loop-next l = left_to_free l.room l.next
