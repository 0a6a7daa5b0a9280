use Rattle.std.proofs.Common.{Some, None}
use Rattle.source_checks.specs.Uses.{use_of as place_use}
use Rattle.fsm_io.specs.Looks.{uses_at}
use Rattle.fsm_io.specs.Pieces.{named_of}
use Rattle.fsm_io.proofs.Steps.{use_step}
use Rattle.fsm_io.proofs.uses.unknown_in_mentions.Goals as goal

pub returns-in-Some : goal.returns-in-Some
returns-in-Some c =
    use_step c.args.table.now (uses_at (named_of c.args.roles)) c.args.mentions.now c.loop-mention.mention-index c.mention-item.result _ c.loop-mention-test.true c.mention-item.is c.loop-mention.invariant (Some (place_use c.in-Some.place)) c.in-Some.ensures

pub loop-mention-preserved : goal.loop-mention-preserved
loop-mention-preserved c =
    use_step c.args.table.now (uses_at (named_of c.args.roles)) c.args.mentions.now c.loop-mention.mention-index c.mention-item.result _ c.loop-mention-test.true c.mention-item.is c.loop-mention.invariant None c.in_default.ensures
