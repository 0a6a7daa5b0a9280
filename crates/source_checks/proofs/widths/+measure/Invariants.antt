use Rattle.std.proofs.Common.{drop}
use Rattle.vlsi_base.specs.Tree.{Tree}
use Rattle.source_checks.specs.Measure.{MeasuredSoFar}
use Rattle.source_checks.proofs.widths.+measure.Given as goal

abbrev pub invariant-measure_chain-loop-line : goal.invariant-measure_chain-loop-line
invariant-measure_chain-loop-line l =
    (whole : Tree) → MeasuredSoFar l.table l.operator whole l.fn.first l.fn.others → MeasuredSoFar l.table l.operator whole l.all (drop l.line-index l.others)
