use Rattle.std.proofs.Common.{◌-◌, length}
use Rattle.vbe_print.proofs.Lines.{ports_of, AreLines}
use Rattle.vbe_print.proofs.registers.registers.Given as goal

abbrev pub invariant-loop-start : goal.invariant-loop-start
invariant-loop-start l = AreLines l.fn.out (ports_of l.registers) l.start l.out

abbrev pub decreases-loop-start : goal.decreases-loop-start
decreases-loop-start l = length l.registers - l.start
