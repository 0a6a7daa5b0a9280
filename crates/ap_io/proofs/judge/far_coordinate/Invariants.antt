use Rattle.std.proofs.Common.{◌≡◌, ◌-◌, take, drop}
use Rattle.ap_io.specs.LineFaults.{far_coordinate}
use Rattle.ap_io.proofs.judge.far_coordinate.Given as goal

-- none of those so far is over the greatest
abbrev pub invariant-loop-number : goal.invariant-loop-number
invariant-loop-number l = far_coordinate l.scale (take (l.count - l.number) (drop l.number l.fields)) ≡ far_coordinate l.scale (take l.count l.fields)
