use Rattle.cell_pins.proofs.Rest.{Continues}
use Rattle.cell_pins.proofs.follows.mark_all.Given as goal

abbrev pub invariant-loop-equation : goal.invariant-loop-equation
invariant-loop-equation l = Continues l.fn.marks.items l.marks.items l.equations l.equation-index
