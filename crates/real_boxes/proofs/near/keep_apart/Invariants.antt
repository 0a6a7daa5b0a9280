use Rattle.std.proofs.Common.{All, take}
use Rattle.real_boxes.specs.Refused.{KeepsApart}
use Rattle.real_boxes.proofs.near.keep_apart.Given as goal

abbrev pub invariant-loop-entry : goal.invariant-loop-entry
invariant-loop-entry l = All (KeepsApart l.entries l.boxes) (take l.entry-index l.entries)
