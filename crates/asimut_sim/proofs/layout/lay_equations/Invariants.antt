use Rattle.asimut_sim.proofs.LayoutLemmas.{Lays}
use Rattle.asimut_sim.proofs.layout.lay_equations.Given as goal

abbrev pub invariant-loop-equation : goal.invariant-loop-equation
invariant-loop-equation l = Lays l.fn.program l.program l.fn.vars.items l.vars.items l.equations l.equation-index
