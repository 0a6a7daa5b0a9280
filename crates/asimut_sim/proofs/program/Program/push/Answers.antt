use Rattle.std.proofs.Common.{refl}
use Rattle.asimut_sim.proofs.ProgramLemmas.{goes_on_push}
use Rattle.asimut_sim.proofs.program.Program.push.Goals as goal

pub returns-clause-goes_on : goal.returns-clause-goes_on
returns-clause-goes_on c = goes_on_push c.args.self.now _ c.args.operator refl c.in_ok-push.ensures.items c.requires.program c.requires.reads
