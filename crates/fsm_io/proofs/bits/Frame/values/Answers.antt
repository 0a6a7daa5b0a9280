use Rattle.std.proofs.Common.{map, ap, ◌∙◌}
use Rattle.bool_expr.specs.View.{view}
use Rattle.source_checks.specs.Symbols.{all_names}
use Rattle.source_checks.specs.Formula.{formulas}
use Rattle.vlsi_base.specs.Tree.{view as tree}
use Rattle.fsm_io.proofs.OverPorts.{item_over, all_made}
use Rattle.fsm_io.proofs.bits.Frame.values.Goals as goal

pub renumbered-requires : goal.renumbered-requires
renumbered-requires c =
    let f = c.args.self.now in
    item_over (all_names f.numbers.now) f.vars.now f.places.now (formulas f.numbers.now (tree c.args.e.now)) c.deref-value-items.result.now c.loop-value.value-index c.value-item.result
    (ap (map view) c.deref-value-items.ensures.value ∙ c.in_ok-over_all.ensures) c.requires.frame.table c.requires.frame.declared c.requires.read.each c.loop-value-test.true c.value-item.is

pub returns : goal.returns
returns c =
    let f = c.args.self.now in
    all_made (all_names f.numbers.now) f.vars.now f.places.now (formulas f.numbers.now (tree c.args.e.now)) c.deref-value-items.result.now (map view c.loop-value.made.items) c.loop-value.value-index c.loop-value.invariant c.loop-value-test.false
    (ap (map view) c.deref-value-items.ensures.value ∙ c.in_ok-over_all.ensures) c.requires.frame.table c.requires.read.each
