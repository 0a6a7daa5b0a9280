use Rattle.std.proofs.Common.{◌≡◌, take}
use Rattle.row_descent.specs.Spans.{total_of}
use Rattle.row_descent.proofs.start.total_of.Given as goal

abbrev pub invariant-loop-span : goal.invariant-loop-span
invariant-loop-span l = l.total ≡ total_of (take l.span-index l.spans)
