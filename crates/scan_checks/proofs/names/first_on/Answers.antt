use Rattle.std.proofs.Common.{◌∙◌, sym}
use Rattle.net_core.specs.Places.{IsThere}
use Rattle.loon_wiring.proofs.Cells.{first_met, none_met}
use Rattle.scan_checks.proofs.Firsts.{none_more, some_there, none_there}
use Rattle.scan_checks.proofs.names.first_on.Goals as goal

pub returns-then-is_some-clause-found : goal.returns-then-is_some-clause-found
returns-then-is_some-clause-found c =
    first_met (IsThere c.args.roll.now) c.args.texts.now c.loop-text.text-index c.text-item.result c.loop-text-test.true c.text-item.is
    (some_there c.args.roll.now c.text-item.result c.place.result c.place.ensures (sym c.is_some.ensures ∙ c.if-is_some.true)) c.loop-text.invariant

pub loop-text-preserved : goal.loop-text-preserved
loop-text-preserved c =
    none_more (IsThere c.args.roll.now) c.args.texts.now c.loop-text.text-index c.text-item.result c.loop-text-test.true c.text-item.is
    (none_there c.args.roll.now c.text-item.result c.place.result c.place.ensures (sym c.is_some.ensures ∙ c.if-is_some.false)) c.loop-text.invariant

pub returns-clause-none : goal.returns-clause-none
returns-clause-none c = λ is. none_met (IsThere c.args.roll.now) c.args.texts.now c.loop-text.text-index c.loop-text-test.false c.loop-text.invariant
