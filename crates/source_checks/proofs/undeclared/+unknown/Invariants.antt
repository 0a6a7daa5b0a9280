use Rattle.std.proofs.Common.{◌≡◌, map, drop}
use Rattle.vlsi_base.specs.Tree.{operand_of}
use Rattle.source_checks.specs.Places.{first_unknown}
use Rattle.source_checks.specs.Uses.{reads_among}
use Rattle.source_checks.proofs.undeclared.+unknown.Given as goal

abbrev pub invariant-unknown_among-loop-e : goal.invariant-unknown_among-loop-e
invariant-unknown_among-loop-e l =
    first_unknown l.table (reads_among (map operand_of (drop l.e-index l.others))) ≡ first_unknown l.table (reads_among (map operand_of l.others))
