use Rattle.std.proofs.Common.{◌≡◌, take}
use Rattle.cell_match.specs.Places.{times}
use Rattle.cell_match.proofs.table.has.Given as goal

abbrev pub invariant-loop-other : goal.invariant-loop-other
invariant-loop-other l = times l.place (take l.other-index l.order) ≡ 0
