use Rattle.std.proofs.Common.{take}
use Rattle.cougar_extract.specs.Stages.{AreBelow}
use Rattle.cougar_extract.proofs.links.bound.Given as goal

abbrev pub invariant-loop-link : goal.invariant-loop-link
invariant-loop-link l = AreBelow (take l.link-index l.links) l.bound
