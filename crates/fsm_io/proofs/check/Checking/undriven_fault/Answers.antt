use Rattle.fsm_io.proofs.Suiting.{suits_different}
use Rattle.fsm_io.proofs.check.Checking.undriven_fault.Goals as goal

pub undriven-requires-clause-different : goal.undriven-requires-clause-different
undriven-requires-clause-different c = suits_different c.args.self.now c.requires
