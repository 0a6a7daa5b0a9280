use Rattle.std.proofs.Common.{length}
use Rattle.real_table.proofs.Listing.{HasRead}
use Rattle.real_table.proofs.reader.read_entries.Given as goal

abbrev pub invariant-loop-line : goal.invariant-loop-line
invariant-loop-line l = HasRead l.fn.lines l.number l.lines l.entries.items

abbrev pub decreases-loop-line : goal.decreases-loop-line
decreases-loop-line l = length l.lines
