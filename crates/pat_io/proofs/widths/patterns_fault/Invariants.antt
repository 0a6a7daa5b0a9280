use Rattle.std.proofs.Common.{◌≡◌, drop}
use Rattle.pat_io.specs.Fitting.{pattern_faults}
use Rattle.pat_io.specs.PatternText.{first_line}
use Rattle.pat_io.proofs.widths.patterns_fault.Given as goal

abbrev pub invariant-loop-pattern : goal.invariant-loop-pattern
invariant-loop-pattern l = first_line (pattern_faults l.columns (drop l.pattern-index l.patterns)) ≡ first_line (pattern_faults l.columns l.patterns)
