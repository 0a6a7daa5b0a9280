use Rattle.cell_function.proofs.Rest.{Continues}
use Rattle.cell_function.proofs.rows.add_values.Given as goal

abbrev pub invariant-loop-equation : goal.invariant-loop-equation
invariant-loop-equation l = Continues l.fn.w l.w l.equations l.equation-index
