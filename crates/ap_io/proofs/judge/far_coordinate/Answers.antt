use Rattle.std.proofs.Common.{◌∙◌, ap, min, ◌-◌, ◌^◌, List, ℕ}
use Rattle.ap_io.specs.Fields.{reach}
use Rattle.ap_io.proofs.Far.{at_start, goes_on, ends_here}
use Rattle.ap_io.proofs.judge.far_coordinate.Goals as goal

pub loop-number-init : goal.loop-number-init
loop-number-init c = at_start c.args.scale c.args.fields.now c.args.count

pub loop-number-preserved : goal.loop-number-preserved
loop-number-preserved c =
    let reached = c.reach-reached.ensures ∙ ap (λ (t : List ℕ). min (reach c.args.scale t) (2 ^ 64 - 1)) c.at.ensures in
    goes_on c.args.scale c.args.fields.now c.loop-number.number c.args.count c.reach-reached.result _ c.loop-number-test.true c.requires reached c.if-reached-gt-MOST_COORDINATE.false c.loop-number.invariant

pub returns-then-reached-gt-MOST_COORDINATE : goal.returns-then-reached-gt-MOST_COORDINATE
returns-then-reached-gt-MOST_COORDINATE c =
    let reached = c.reach-reached.ensures ∙ ap (λ (t : List ℕ). min (reach c.args.scale t) (2 ^ 64 - 1)) c.at.ensures in
    ends_here c.args.scale c.args.fields.now c.loop-number.number c.args.count c.reach-reached.result _ c.loop-number-test.true c.requires reached c.if-reached-gt-MOST_COORDINATE.true c.loop-number.invariant
