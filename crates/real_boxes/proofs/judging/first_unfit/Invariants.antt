use Rattle.std.proofs.Common.{◌≡◌, drop}
use Rattle.real_boxes.specs.Refused.{first_unfit}
use Rattle.real_boxes.proofs.judging.first_unfit.Given as goal

abbrev pub invariant-loop-one : goal.invariant-loop-one
invariant-loop-one l = first_unfit l.grid (drop l.one-index l.boxes) ≡ first_unfit l.grid l.boxes
