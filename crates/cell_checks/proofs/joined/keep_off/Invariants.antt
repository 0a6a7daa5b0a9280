use Rattle.cell_checks.specs.Shapes.{KeepsOff}
use Rattle.cell_checks.proofs.Loops.{FirstHave}
use Rattle.cell_checks.proofs.joined.keep_off.Given as goal

abbrev pub invariant-loop-i : goal.invariant-loop-i
invariant-loop-i l = FirstHave (KeepsOff l.shapes l.name l.strip) l.shapes l.i
