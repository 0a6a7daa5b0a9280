use Rattle.asimut_sim.proofs.LoadLemmas.{loads_over}
use Rattle.asimut_sim.proofs.ProgramLemmas.{extent_grows}
use Rattle.asimut_sim.proofs.LayoutLemmas.{below_weaker}
use Rattle.asimut_sim.proofs.LoadsLemmas.{loads_none, loads_more, loads_all}
use Rattle.asimut_sim.proofs.layout.lay_registers.Goals as goal

pub loop-register-init : goal.loop-register-init
loop-register-init c = loads_none c.args.program.now c.args.vars.now c.new-loads.result.items c.new-loads.ensures.items c.requires.program

pub lay_register-requires-clause-program : goal.lay_register-requires-clause-program
lay_register-requires-clause-program c = c.loop-register.invariant.goes_on.program

pub lay_register-requires-clause-vars : goal.lay_register-requires-clause-vars
lay_register-requires-clause-vars c = below_weaker _ _ c.args.vars.now (extent_grows _ _ c.loop-register.invariant.goes_on) c.requires.vars

pub lay_register-requires-clause-over : goal.lay_register-requires-clause-over
lay_register-requires-clause-over c =
    loads_over _ c.args.registers.now c.loop-register.register-index c.register-item.result c.requires.over c.loop-register-test.true c.register-item.is

pub loop-register-preserved : goal.loop-register-preserved
loop-register-preserved c =
    loads_more c.args.program.now c.loop-register.program _ c.args.vars.now c.loop-register.loads.items _ _ c.args.registers.now c.loop-register.register-index
    c.register-item.result c.loop-register-test.true c.register-item.is c.in_ok-push.ensures.items c.in_ok-lay_register.ensures c.loop-register.invariant

pub returns : goal.returns
returns c =
    loads_all c.args.program.now c.loop-register.program c.args.vars.now c.loop-register.loads.items c.args.registers.now c.loop-register.register-index
    c.loop-register-test.false c.loop-register.invariant
