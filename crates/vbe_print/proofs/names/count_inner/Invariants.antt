use Rattle.std.proofs.Common.{◌≡◌, ◌≤◌, length, filter, take}
use Rattle.vbe_print.proofs.Naming.{is_inner}
use Rattle.vbe_print.proofs.names.count_inner.Given as goal

abbrev pub invariant-loop-equation : goal.invariant-loop-equation
invariant-loop-equation l = (l.many ≡ length (filter (is_inner l.outputs) (take l.equation-index l.equations))) × (l.many ≤ l.equation-index)
