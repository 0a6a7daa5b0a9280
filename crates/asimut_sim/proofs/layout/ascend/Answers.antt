use Rattle.std.proofs.Common.{◌≡◌, length, arith}
use Rattle.std.proofs.lemmas.List.{nil_from_length}
use Rattle.asimut_sim.proofs.LayoutLemmas.{climbs_begins, climbs_step, climbs_next, climbs_ends}
use Rattle.asimut_sim.proofs.layout.ascend.Goals as goal

pub loop-step-init : goal.loop-step-init
loop-step-init c = climbs_begins c.args.program.now c.args.steps.items c.args.inner c.requires.program c.requires.steps c.requires.inner

pub ascend_one-requires-clause-program : goal.ascend_one-requires-clause-program
ascend_one-requires-clause-program c = c.loop-step.invariant.goes_on.program

pub ascend_one-requires-clause-step : goal.ascend_one-requires-clause-step
ascend_one-requires-clause-step c =
    climbs_step c.args.program.now c.loop-step.program c.loop-step.steps.items _ _ c.loop-step.place c.args.steps.items c.args.inner c.in-Some.ensures.items c.loop-step.invariant

pub ascend_one-requires-clause-inner : goal.ascend_one-requires-clause-inner
ascend_one-requires-clause-inner c = c.loop-step.invariant.within

pub loop-step-preserved : goal.loop-step-preserved
loop-step-preserved c =
    climbs_next c.args.program.now c.loop-step.program _ c.loop-step.steps.items _ _ c.loop-step.place _ c.args.steps.items c.args.inner c.in-Some.ensures.items
    c.loop-step.invariant c.in_ok-place.ensures

pub returns : goal.returns
returns c =
    let cases = c.in_default.ensures.cases in
    let none : length c.loop-step.steps.items ≡ 0 = omega (arith, cases) in
    climbs_ends c.args.program.now c.loop-step.program c.loop-step.steps.items c.loop-step.place c.args.steps.items c.args.inner
    (nil_from_length c.loop-step.steps.items none) c.loop-step.invariant
