use Rattle.machine_core.specs.View.{register_view}
use Rattle.asimut_sim.proofs.ProgramLemmas.{extent_grows}
use Rattle.asimut_sim.proofs.LayoutLemmas.{below_weaker}
use Rattle.asimut_sim.proofs.LoadsLemmas.{loads_one}
use Rattle.asimut_sim.proofs.layout.lay_register.Goals as goal

pub lay-requires-2-clause-program : goal.lay-requires-2-clause-program
lay-requires-2-clause-program c = c.in_ok-next.ensures.goes_on.program

pub lay-requires-2-clause-vars : goal.lay-requires-2-clause-vars
lay-requires-2-clause-vars c = below_weaker _ _ c.args.vars.now (extent_grows _ _ c.in_ok-next.ensures.goes_on) c.requires.vars

pub returns : goal.returns
returns c = loads_one _ _ _ c.args.vars.now (register_view c.args.register.now) _ c.in_ok-next.ensures c.in_ok-enable.ensures
