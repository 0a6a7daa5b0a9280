use Rattle.std.proofs.Common.{◌≡◌, drop}
use Rattle.pat_io.specs.Fitting.{column_faults}
use Rattle.pat_io.specs.PatternText.{first_line}
use Rattle.pat_io.proofs.widths.columns_fault.Given as goal

abbrev pub invariant-loop-column : goal.invariant-loop-column
invariant-loop-column l = first_line (column_faults l.ports (drop l.column-index l.columns)) ≡ first_line (column_faults l.ports l.columns)
