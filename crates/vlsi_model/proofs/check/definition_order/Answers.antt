use Rattle.std.proofs.Common.{◌≡◌, ◌<◌, List, length, map, sym, ap, ◌∙◌, subst, arith}
use Rattle.std.specs.List.{All}
use Rattle.bool_expr.specs.Expression.{IsOver}
use Rattle.bool_expr.specs.View.{view}
use Rattle.machine_core.specs.Order.{AllDifferent}
use Rattle.source_checks.specs.declared.symbol_table.Symbol.{Symbol}
use Rattle.source_checks.specs.Symbols.{symbols, all_names}
use Rattle.source_bits.specs.declared.driven.DrivenBit.{DrivenBit}
use Rattle.vlsi_model.proofs.SourceBits.{sound, driven_inside, driven_over, driven_different}
use Rattle.vlsi_model.proofs.Refusing.{order_of_source}
use Rattle.vlsi_model.proofs.Counted.{driven_few}
use Rattle.vlsi_model.proofs.check.definition_order.Goals as goal

pub node_order-requires-clause-inside : goal.node_order-requires-clause-inside
node_order-requires-clause-inside c =
    let count : c.total.result ≡ length (all_names (symbols c.args.design.now)) = c.total.ensures ∙ ap (λ (known : List Symbol). length (all_names known)) c.requires.source.numbers in
    subst (λ (xs : List DrivenBit). All (λ (d : DrivenBit). d.bit < c.total.result) xs) (sym c.deref.ensures.value)
    (subst (λ n. All (λ (d : DrivenBit). d.bit < n) c.args.source.now.driven.items) (sym count) (driven_inside c.args.design.now c.args.source.now (sound c.args.design.now c.requires.sound) c.requires.source))

pub node_order-requires-clause-different : goal.node_order-requires-clause-different
node_order-requires-clause-different c =
    subst (λ (xs : List DrivenBit). AllDifferent (map (λ (d : DrivenBit). d.bit) xs)) (sym c.deref.ensures.value) (driven_different c.args.design.now c.args.source.now (sound c.args.design.now c.requires.sound) c.requires.source)

pub node_order-requires-clause-few : goal.node_order-requires-clause-few
node_order-requires-clause-few c =
    let few = driven_few c.args.design.now c.args.source.now (sound c.args.design.now c.requires.sound) c.requires.source in
    let same = ap (λ (xs : List DrivenBit). length xs) c.deref.ensures.value in
    omega (arith, few, same)

pub node_order-requires-clause-over : goal.node_order-requires-clause-over
node_order-requires-clause-over c =
    let count : c.total.result ≡ length (all_names (symbols c.args.design.now)) = c.total.ensures ∙ ap (λ (known : List Symbol). length (all_names known)) c.requires.source.numbers in
    subst (λ (xs : List DrivenBit). All (λ (d : DrivenBit). IsOver (view d.expr) c.total.result) xs) (sym c.deref.ensures.value)
    (subst (λ n. All (λ (d : DrivenBit). IsOver (view d.expr) n) c.args.source.now.driven.items) (sym count) (driven_over c.args.design.now c.args.source.now (sound c.args.design.now c.requires.sound) c.requires.source))

pub returns : goal.returns
returns c =
    order_of_source c.args.design.now c.args.source.now c.deref.result.now c.total.result c.in_ok-order.order (sound c.args.design.now c.requires.sound) c.requires.source c.deref.ensures.value c.total.ensures c.in_ok-order.ensures
