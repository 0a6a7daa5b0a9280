use Rattle.std.proofs.Common.{take}
use Rattle.boog_tree.specs.Joined.{IsGrownBy}
use Rattle.boog_tree.proofs.cuts.join_with.Given as goal

abbrev pub invariant-loop-second : goal.invariant-loop-second
invariant-loop-second g l = IsGrownBy l.initial.cuts.items l.first (take l.second-index l.seconds) l.cuts.items
