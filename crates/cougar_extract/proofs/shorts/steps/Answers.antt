use Rattle.std.proofs.Common.{◌∙◌, ap}
use Rattle.cougar_extract.specs.Refused.{step_of}
use Rattle.cougar_extract.proofs.ShownSteps.{told_next}
use Rattle.cougar_extract.proofs.shorts.steps.Goals as goal

pub loop-place-preserved : goal.loop-place-preserved
loop-place-preserved c =
    let k = c.loop-place.place-index in
    told_next c.args.shapes.now c.args.places.now k c.index-shapes-place.result c.loop-place.steps.items c.push.new.self.items c.in_ok-step.field-0 c.loop-place-test.true
    (c.requires k 0 c.loop-place-test.true) c.loop-place.invariant c.in_ok-push.ensures.items (c.in_ok-step.ensures ∙ ap step_of c.index-shapes-place.is)
