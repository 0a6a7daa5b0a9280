use Rattle.std.proofs.Common.{ap}
use Rattle.fsm_text.specs.Written.{machine_view}
use Rattle.fsm_free.proofs.Both.{may_be_both, faulty_refused}
use Rattle.fsm_free.proofs.machine.free_machine.Goals as goal

pub both-requires-clause-checked : goal.both-requires-clause-checked
both-requires-clause-checked c =
    may_be_both c.args.tokens.now (machine_view c.in-Ok.file) (machine_view c.in_ok-made.made.file) c.requires c.in-Ok.ensures.accepted c.in-Ok.ensures.short (ap machine_view c.in_ok-made.ensures.file)

pub returns-in-Err-both-clause-refused : goal.returns-in-Err-both-clause-refused
returns-in-Err-both-clause-refused c =
    faulty_refused c.args.tokens.now (machine_view c.in-Ok.file) (machine_view c.in_ok-made.made.file) c.as_slice.result.now c.in-Err-both.e c.in-Ok.ensures.accepted
    (ap machine_view c.in_ok-made.ensures.file) c.as_slice.ensures c.in-Err-both.ensures.refused
