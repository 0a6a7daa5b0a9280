use Rattle.std.proofs.lemmas.List.{drop_all}
use Rattle.asimut_sim.proofs.LayoutLemmas.{lays_begins, lays_over, lays_next, lays_ends}
use Rattle.asimut_sim.proofs.layout.lay_equations.Goals as goal

pub loop-equation-init : goal.loop-equation-init
loop-equation-init c = lays_begins c.args.program.now c.args.vars.now.items c.args.equations.now c.requires.program c.requires.vars c.requires.reads

pub lay-requires-clause-program : goal.lay-requires-clause-program
lay-requires-clause-program c = c.loop-equation.invariant.goes_on.program

pub lay-requires-clause-vars : goal.lay-requires-clause-vars
lay-requires-clause-vars c = rw c.deref.ensures.value c.loop-equation.invariant.within

pub lay-requires-clause-over : goal.lay-requires-clause-over
lay-requires-clause-over c =
    rw c.deref.ensures.value
    (lays_over c.args.program.now c.loop-equation.program c.args.vars.now.items c.loop-equation.vars.items c.args.equations.now c.loop-equation.equation-index
    c.equation-item.result c.loop-equation-test.true c.equation-item.is c.loop-equation.invariant)

pub loop-equation-preserved : goal.loop-equation-preserved
loop-equation-preserved c =
    lays_next c.args.program.now c.loop-equation.program _ c.args.vars.now.items c.loop-equation.vars.items _ c.args.equations.now c.loop-equation.equation-index
    c.equation-item.result _ c.loop-equation-test.true c.equation-item.is c.in_ok-push.ensures.items (rw c.deref.ensures.value at c.in_ok-place.ensures) c.loop-equation.invariant

pub returns : goal.returns
returns c =
    lays_ends c.args.program.now c.loop-equation.program c.args.vars.now.items c.loop-equation.vars.items c.args.equations.now c.loop-equation.equation-index
    (drop_all c.loop-equation.equation-index c.args.equations.now c.loop-equation-test.false) c.loop-equation.invariant
