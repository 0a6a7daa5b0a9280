use Rattle.std.proofs.Common.{◌≡◌, map, drop}
use Rattle.source_checks.specs.Places.{first_unknown}
use Rattle.fsm_io.specs.Looks.{use_of}
use Rattle.fsm_io.proofs.uses.unknown_among.Given as goal

abbrev pub invariant-loop-name : goal.invariant-loop-name
invariant-loop-name l = first_unknown l.table (map use_of (drop l.name-index l.names)) ≡ first_unknown l.table (map use_of l.names)
