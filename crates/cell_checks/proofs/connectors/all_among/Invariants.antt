use Rattle.cell_checks.proofs.Among.{FirstAmong}
use Rattle.cell_checks.proofs.connectors.all_among.Given as goal

abbrev pub invariant-loop-name : goal.invariant-loop-name
invariant-loop-name l = FirstAmong l.names l.others l.name-index
