use Rattle.nero_maze.proofs.Tracing.{Goes}
use Rattle.nero_maze.proofs.trace.first_taken.Given as goal

abbrev pub invariant-loop-node : goal.invariant-loop-node
invariant-loop-node l = Goes l.board l.net l.target l.fn.meeting.node l.fn.meeting.cost l.node l.left

abbrev pub decreases-loop-node : goal.decreases-loop-node
decreases-loop-node l = l.left
