use Rattle.std.proofs.Common.{length}
use Rattle.ap_io.proofs.Walking.{WalksEnd}
use Rattle.ap_io.proofs.reader.end.Given as goal

-- the lines so far were blank
abbrev pub invariant-loop-line : goal.invariant-loop-line
invariant-loop-line l = WalksEnd l.initial.lines l.initial.before l.lines l.before

abbrev pub decreases-loop-line : goal.decreases-loop-line
decreases-loop-line l = length l.lines
