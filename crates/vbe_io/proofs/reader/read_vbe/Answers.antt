use Rattle.vbe_io.proofs.Checking.{checked}
use Rattle.vbe_io.proofs.reader.read_vbe.Goals as goal

pub returns-clause-refused : goal.returns-clause-refused
returns-clause-refused c = checked c.args.bytes.now c.in_ok-design.design c.in_ok-design.ensures.written c.check_machine.result c.check_machine.ensures.refused
