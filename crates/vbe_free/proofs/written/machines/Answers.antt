use Rattle.vbe_free.proofs.Placing.{free_of, faulty_of}
use Rattle.vbe_free.proofs.written.machines.Goals as goal

pub returns-in-Err-clause-refused : goal.returns-in-Err-clause-refused
returns-in-Err-clause-refused c = faulty_of c.args.bytes.now c.args.tokens.now c.args.wrote c.in-Err.e c.requires.cut c.requires.written c.in-Err.ensures.refused

pub returns-clause-accepted : goal.returns-clause-accepted
returns-clause-accepted c = free_of c.args.bytes.now c.args.tokens.now c.args.wrote c.in_ok-made.made c.requires.cut c.requires.written c.in_ok-made.ensures
