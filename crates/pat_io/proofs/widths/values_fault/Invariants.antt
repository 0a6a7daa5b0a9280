use Rattle.std.proofs.Common.{◌≡◌, drop}
use Rattle.pat_io.specs.Fitting.{value_faults}
use Rattle.pat_io.specs.PatternText.{first_line}
use Rattle.pat_io.proofs.widths.values_fault.Given as goal

abbrev pub invariant-loop-k : goal.invariant-loop-k
invariant-loop-k l = first_line (value_faults (drop l.k l.columns) (drop l.k l.values)) ≡ first_line (value_faults l.columns l.values)
