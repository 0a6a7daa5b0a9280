use Rattle.std.proofs.Common.{length}
use Rattle.ap_io.proofs.Walking.{Walks}
use Rattle.ap_io.proofs.reader.items.Given as goal

-- the lines so far had no fault, and the items are theirs
abbrev pub invariant-loop-line : goal.invariant-loop-line
invariant-loop-line l = Walks l.scale l.initial.lines l.initial.before l.body l.lines l.before

abbrev pub decreases-loop-line : goal.decreases-loop-line
decreases-loop-line l = length l.lines
