use Rattle.std.proofs.Common.{◌≡◌, drop}
use Rattle.real_boxes.specs.Refused.{first_lost}
use Rattle.real_boxes.proofs.judging.keep_metal.Given as goal

abbrev pub invariant-loop-mark : goal.invariant-loop-mark
invariant-loop-mark l = first_lost l.table (drop l.mark-index l.marks) ≡ first_lost l.table l.marks
