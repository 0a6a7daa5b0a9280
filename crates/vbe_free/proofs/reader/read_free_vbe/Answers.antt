use Rattle.vbe_free.proofs.Choosing.{free_refused, fixed_refused}
use Rattle.vbe_free.proofs.reader.read_free_vbe.Goals as goal

pub returns-in-Err-clause-refused : goal.returns-in-Err-clause-refused
returns-in-Err-clause-refused c = free_refused c.args.bytes.now c.in_ok-read.read c.in-Some.read c.in-Err.e c.in_ok-read.ensures.tokens c.in-Some.is c.in-Err.ensures.refused

pub returns-in-Err-read_vbe-clause-refused : goal.returns-in-Err-read_vbe-clause-refused
returns-in-Err-read_vbe-clause-refused c =
    fixed_refused c.args.bytes.now c.in_ok-read.read c.in-Err-read_vbe.e c.in_ok-read.ensures.tokens c.in-None.is c.in-Err-read_vbe.ensures.refused
