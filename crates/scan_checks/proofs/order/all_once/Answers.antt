use Rattle.std.proofs.Common.{◌∙◌, sym}
use Rattle.scan_checks.proofs.Ordered.{twice_found, all_different}
use Rattle.scan_checks.proofs.order.all_once.Goals as goal

pub returns-then-is_some-clause-refused : goal.returns-then-is_some-clause-refused
returns-then-is_some-clause-refused c =
    twice_found c.args.texts.now c.loop-text.roll c.loop-text.text-index c.text-item.result c.in_ok-copy.field-0 c.place.result c.loop-text-test.true c.text-item.is
    c.loop-text.invariant.same c.loop-text.invariant.once c.place.ensures (sym c.is_some.ensures ∙ c.if-is_some.true) c.in_ok-copy.ensures

pub returns-clause-once : goal.returns-clause-once
returns-clause-once c =
    (all_different c.args.texts.now c.loop-text.roll c.loop-text.text-index c.loop-text-test.false c.loop-text.invariant.same c.loop-text.invariant.once).1
