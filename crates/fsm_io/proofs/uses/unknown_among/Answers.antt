use Rattle.std.proofs.Common.{Some, None}
use Rattle.source_checks.specs.Uses.{use_of as place_use}
use Rattle.fsm_io.proofs.Steps.{name_step}
use Rattle.fsm_io.proofs.uses.unknown_among.Goals as goal

pub returns-in-Some : goal.returns-in-Some
returns-in-Some c =
    name_step c.args.table.now c.args.names.now c.loop-name.name-index c.name-item.result _ c.loop-name-test.true c.name-item.is c.loop-name.invariant (Some (place_use c.in-Some.place)) c.in-Some.ensures

pub loop-name-preserved : goal.loop-name-preserved
loop-name-preserved c =
    name_step c.args.table.now c.args.names.now c.loop-name.name-index c.name-item.result _ c.loop-name-test.true c.name-item.is c.loop-name.invariant None c.in_default.ensures
