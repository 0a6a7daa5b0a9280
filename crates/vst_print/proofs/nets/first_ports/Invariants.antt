use Rattle.vst_print.proofs.Signals.{Firsts}
use Rattle.vst_print.proofs.nets.first_ports.Given as goal

abbrev pub invariant-loop-k : goal.invariant-loop-k
invariant-loop-k l = Firsts l.ports l.classes l.k l.names.items
