use Rattle.flow_run.specs.View.{origin_view}
use Rattle.flow_run.proofs.Refusing.{by_text, by_size}
use Rattle.flow_run.proofs.flow.read_source.Goals as goal

pub returns-in-Err-clause-refused : goal.returns-in-Err-clause-refused
returns-in-Err-clause-refused c =
    by_text c.args.command.now c.args.source.now c.in-Err.error c.refused.result c.in-Err.ensures.refused c.refused.ensures

pub returns-in-Ok-check_size-clause-accepted : goal.returns-in-Ok-check_size-clause-accepted
returns-in-Ok-check_size-clause-accepted c = record { machine = c.in-Ok.ensures.accepted; small = c.in-Ok-check_size.ensures.small }

pub returns-in-Err-check_size-clause-refused : goal.returns-in-Err-check_size-clause-refused
returns-in-Err-check_size-clause-refused c =
    by_size c.args.command.now c.args.source.now (origin_view c.in-Ok.read.origin) c.in-Ok.read.machine c.in-Err-check_size.status c.in-Ok.ensures.accepted
    c.in-Err-check_size.ensures.large.0 c.in-Err-check_size.ensures.large.1
