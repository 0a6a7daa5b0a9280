use Rattle.std.proofs.Common.{◌≤◌}
use Rattle.vst_print.proofs.Signals.{Signals}
use Rattle.vst_print.proofs.nets.push_signals.Given as goal

abbrev pub invariant-loop-number : goal.invariant-loop-number
invariant-loop-number l = record {
  whole : Signals l.initial.names.items l.ports l.many l.left l.number l.names.items;
  most : l.left ≤ l.many;
}
