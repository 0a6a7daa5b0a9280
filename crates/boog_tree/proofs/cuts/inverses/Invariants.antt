use Rattle.std.proofs.Common.{take}
use Rattle.boog_tree.specs.Joined.{AreInverses}
use Rattle.boog_tree.proofs.cuts.inverses.Given as goal

abbrev pub invariant-loop-cut : goal.invariant-loop-cut
invariant-loop-cut g l = AreInverses (take l.cut-index l.first) l.cuts.items
