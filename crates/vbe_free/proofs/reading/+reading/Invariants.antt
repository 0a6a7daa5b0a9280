use Rattle.std.proofs.Common.{◌≡◌, map, drop}
use Rattle.vlsi_base.specs.Tree.{operand_of}
use Rattle.source_checks.specs.Drivers.{is_among}
use Rattle.vbe_free.specs.Filled.{operands_read}
use Rattle.vbe_free.proofs.reading.+reading.Given as goal

abbrev pub invariant-others_read-loop-e : goal.invariant-others_read-loop-e
invariant-others_read-loop-e l =
    is_among (operands_read l.table (map operand_of (drop l.e-index l.others))) (record { text = l.of; bit = l.bit })
    ≡ is_among (operands_read l.table (map operand_of l.others)) (record { text = l.of; bit = l.bit })
