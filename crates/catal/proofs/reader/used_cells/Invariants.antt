use Rattle.std.proofs.Common.{length}
use Rattle.vlsi_base.specs.Lines.{lines_of}
use Rattle.catal.proofs.Listing.{HasRead}
use Rattle.catal.proofs.reader.used_cells.Given as goal

abbrev pub invariant-loop-line : goal.invariant-loop-line
invariant-loop-line l = HasRead (lines_of l.bytes) l.number l.lines l.cells

abbrev pub decreases-loop-line : goal.decreases-loop-line
decreases-loop-line l = length l.lines
