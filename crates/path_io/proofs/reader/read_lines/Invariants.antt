use Rattle.std.proofs.Common.{length}
use Rattle.vlsi_base.specs.Lines.{lines_of}
use Rattle.path_io.proofs.Listing.{HasRead}
use Rattle.path_io.proofs.reader.read_lines.Given as goal

abbrev pub invariant-loop-line : goal.invariant-loop-line
invariant-loop-line l = HasRead (lines_of l.bytes) l.lines l.file

abbrev pub decreases-loop-line : goal.decreases-loop-line
decreases-loop-line l = length l.lines
