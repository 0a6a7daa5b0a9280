use Rattle.nero_maze.specs.Hulls.{Holds}
use Rattle.nero_maze.proofs.Claiming.{Walk}
use Rattle.nero_maze.proofs.claim.claim.Given as goal

abbrev pub invariant-loop-node : goal.invariant-loop-node
invariant-loop-node l = record {
  walk : Walk l.net l.target l.fn.meeting.cost l.fn.room l.room l.marks l.node l.left l.joining;
  holds : Holds l.room.grid l.hull l.room.owners.items l.room.links.items l.net;
}

abbrev pub decreases-loop-node : goal.decreases-loop-node
decreases-loop-node l = l.left
