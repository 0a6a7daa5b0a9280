use Rattle.std.proofs.Common.{Some, None}
use Rattle.fsm_io.specs.Widths.{widths_at}
use Rattle.fsm_io.specs.Pieces.{named_of}
use Rattle.fsm_io.proofs.Steps.{line_step}
use Rattle.fsm_io.proofs.widths.fault_in_mentions.Goals as goal

pub returns-in-Some : goal.returns-in-Some
returns-in-Some c =
    line_step (widths_at c.args.table.now (named_of c.args.roles)) c.args.mentions.now c.loop-mention.mention-index c.mention-item.result _ c.loop-mention-test.true c.mention-item.is c.loop-mention.invariant (Some c.in-Some.line) c.in-Some.ensures

pub loop-mention-preserved : goal.loop-mention-preserved
loop-mention-preserved c =
    line_step (widths_at c.args.table.now (named_of c.args.roles)) c.args.mentions.now c.loop-mention.mention-index c.mention-item.result _ c.loop-mention-test.true c.mention-item.is c.loop-mention.invariant None c.in_default.ensures
