use Rattle.std.proofs.Common.{◌≡◌, map, drop}
use Rattle.std.specs.Option.{option_copied}
use Rattle.vlsi_base.specs.Tree.{operand_of}
use Rattle.source_checks.specs.Lines.{first_line, in_operands}
use Rattle.source_checks.specs.Clock.{clock_lines}
use Rattle.source_clock.proofs.reads.+clock_line.Given as goal

abbrev pub invariant-clock_line_among-loop-e : goal.invariant-clock_line_among-loop-e
invariant-clock_line_among-loop-e l =
    first_line (in_operands (clock_lines (option_copied l.clock)) (map operand_of (drop l.e-index l.others))) ≡ first_line (in_operands (clock_lines (option_copied l.clock)) (map operand_of l.others))
