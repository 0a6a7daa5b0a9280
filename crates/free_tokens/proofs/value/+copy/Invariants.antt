use Rattle.std.proofs.Common.{◌≡◌, map, take}
use Rattle.vlsi_base.specs.Tree.{operand_of}
use Rattle.free_tokens.proofs.value.+copy.Given as goal

abbrev pub invariant-copied_operands-loop-line : goal.invariant-copied_operands-loop-line
invariant-copied_operands-loop-line l = map operand_of l.made.items ≡ map operand_of (take l.line-index l.operands)
