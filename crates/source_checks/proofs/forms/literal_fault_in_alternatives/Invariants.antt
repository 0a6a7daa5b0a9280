use Rattle.std.proofs.Common.{◌≡◌, drop}
use Rattle.source_checks.specs.Lines.{first_line}
use Rattle.source_checks.specs.Places.{in_alternatives}
use Rattle.source_checks.specs.Unsupported.{literal_faults}
use Rattle.source_checks.proofs.forms.literal_fault_in_alternatives.Given as goal

abbrev pub invariant-loop-guarded : goal.invariant-loop-guarded
invariant-loop-guarded l = first_line ((in_alternatives literal_faults (λ line e. literal_faults e)) (drop l.guarded-index l.alternatives)) ≡ first_line ((in_alternatives literal_faults (λ line e. literal_faults e)) l.alternatives)
