use Rattle.fsm_laws.proofs.Sources.{fsm_is_named, fsm_is_short}
use Rattle.fsm_laws.proofs.writable.fsm_is_named.Goals as goal

pub returns-clause-named : goal.returns-clause-named
returns-clause-named c = fsm_is_named

pub returns-clause-short : goal.returns-clause-short
returns-clause-short c = fsm_is_short
