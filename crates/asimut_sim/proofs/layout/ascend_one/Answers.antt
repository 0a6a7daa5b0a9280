use Rattle.std.proofs.Common.{arith}
use Rattle.asimut_sim.specs.Program.{extent}
use Rattle.asimut_sim.proofs.LayoutLemmas.{ascends_one}
use Rattle.asimut_sim.proofs.layout.ascend_one.Goals as goal

pub push-requires-clause-reads : goal.push-requires-clause-reads
push-requires-clause-reads c =
    let two = c.requires.program.constants in
    c.step_operator.ensures.reads (extent c.args.program.now) (omega (arith, two)) c.requires.step c.requires.inner

pub returns : goal.returns
returns c =
    ascends_one c.args.program.now _ c.step_operator.result c.args.step c.args.inner _ c.in_ok-place.ensures.goes_on c.in_ok-place.ensures.operators
    c.in_ok-place.ensures.place c.step_operator.ensures.value
