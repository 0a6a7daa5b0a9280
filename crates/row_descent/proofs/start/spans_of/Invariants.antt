use Rattle.std.proofs.Common.{◌≡◌, map, take}
use Rattle.row_descent.specs.Spans.{span_of}
use Rattle.row_descent.specs.Tables.{nets_in}
use Rattle.row_descent.proofs.start.spans_of.Given as goal

abbrev pub invariant-loop-net : goal.invariant-loop-net
invariant-loop-net l = l.spans.items ≡ map (span_of l.starts) (nets_in (take l.net-index l.nets))
