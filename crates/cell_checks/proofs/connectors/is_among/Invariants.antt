use Rattle.cell_checks.proofs.Among.{NoneIs}
use Rattle.cell_checks.proofs.connectors.is_among.Given as goal

abbrev pub invariant-loop-other : goal.invariant-loop-other
invariant-loop-other l = NoneIs l.names l.name l.other-index
