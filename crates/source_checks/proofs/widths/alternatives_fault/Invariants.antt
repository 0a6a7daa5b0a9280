use Rattle.std.proofs.Common.{◌≡◌, drop}
use Rattle.source_checks.specs.Lines.{first_line}
use Rattle.source_checks.specs.Places.{in_alternatives}
use Rattle.source_checks.specs.Widths.{width_faults, condition_faults}
use Rattle.source_checks.proofs.widths.alternatives_fault.Given as goal

abbrev pub invariant-loop-guarded : goal.invariant-loop-guarded
invariant-loop-guarded l = first_line ((in_alternatives (width_faults l.table) (condition_faults l.table)) (drop l.guarded-index l.alternatives)) ≡ first_line ((in_alternatives (width_faults l.table) (condition_faults l.table)) l.alternatives)
