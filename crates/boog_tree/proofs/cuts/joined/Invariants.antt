use Rattle.std.proofs.Common.{take}
use Rattle.boog_tree.specs.Joined.{AreJoined}
use Rattle.boog_tree.proofs.cuts.joined.Given as goal

abbrev pub invariant-loop-first : goal.invariant-loop-first
invariant-loop-first g l = AreJoined (take l.first-index l.firsts) l.seconds l.cuts.items
