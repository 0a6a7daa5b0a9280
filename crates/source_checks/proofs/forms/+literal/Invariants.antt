use Rattle.std.proofs.Common.{◌≡◌, map, drop}
use Rattle.vlsi_base.specs.Tree.{operand_of}
use Rattle.source_checks.specs.Lines.{first_line, in_operands}
use Rattle.source_checks.specs.Unsupported.{literal_faults}
use Rattle.source_checks.proofs.forms.+literal.Given as goal

abbrev pub invariant-literal_fault_among-loop-e : goal.invariant-literal_fault_among-loop-e
invariant-literal_fault_among-loop-e l =
    first_line (in_operands literal_faults (map operand_of (drop l.e-index l.others))) ≡ first_line (in_operands literal_faults (map operand_of l.others))
