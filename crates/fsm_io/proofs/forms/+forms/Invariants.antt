use Rattle.std.proofs.Common.{◌≡◌, map, drop}
use Rattle.vlsi_base.specs.Tree.{operand_of}
use Rattle.source_checks.specs.Lines.{first_line, in_operands}
use Rattle.fsm_io.specs.Pieces.{readable_forms}
use Rattle.fsm_io.proofs.forms.+forms.Given as goal

abbrev pub invariant-read_fault_among-loop-e : goal.invariant-read_fault_among-loop-e
invariant-read_fault_among-loop-e l =
    first_line (in_operands (readable_forms l.readable) (map operand_of (drop l.e-index l.others)))
    ≡ first_line (in_operands (readable_forms l.readable) (map operand_of l.others))
