use Rattle.std.proofs.Common.{false}
use Rattle.vbe_free.proofs.Short.{filled_short}
use Rattle.vbe_free.proofs.Placing.{accepted_all, refused_all, again_refused}
use Rattle.vbe_free.proofs.written.low_machine.Goals as goal

pub placed_machine-requires-clause-short : goal.placed_machine-requires-clause-short
placed_machine-requires-clause-short c = filled_short false c.in-Ok.other c.in_ok-zeros.zeros c.in_ok-zeros.ensures c.in-Ok.ensures.short

pub returns-clause-accepted : goal.returns-clause-accepted
returns-clause-accepted c =
    accepted_all c.args.tokens.now c.args.wrote.now c.in-Ok.other c.in_ok-zeros.zeros c.in_ok-line.line c.requires c.in-Ok.ensures.written c.in_ok-zeros.ensures
    c.in_ok-line.ensures c.placed_machine.result c.placed_machine.ensures.accepted

pub returns-clause-refused : goal.returns-clause-refused
returns-clause-refused c =
    refused_all c.args.tokens.now c.args.wrote.now c.in-Ok.other c.in_ok-zeros.zeros c.in_ok-line.line c.requires c.in-Ok.ensures.written c.in_ok-zeros.ensures
    c.in_ok-line.ensures c.placed_machine.result c.placed_machine.ensures.refused

pub returns-in-Err-clause-refused : goal.returns-in-Err-clause-refused
returns-in-Err-clause-refused c = again_refused c.args.tokens.now c.args.wrote.now c.in-Err.e c.requires c.in-Err.ensures.refused
