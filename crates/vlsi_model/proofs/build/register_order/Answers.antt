use Rattle.std.proofs.Common.{ℕ, List, length, map, sym, ap, ◌∙◌, subst, arith}
use Rattle.std.proofs.lemmas.List.{length-map}
use Rattle.vlsi_base.specs.declared.name.Name.{Name}
use Rattle.machine_core.specs.Order.{AllDifferent}
use Rattle.source_checks.specs.declared.symbol_table.Symbol.{Symbol}
use Rattle.source_checks.specs.Symbols.{all_names}
use Rattle.source_bits.specs.declared.driven.StoredBit.{StoredBit}
use Rattle.vlsi_model.specs.Numbered.{name_at}
use Rattle.vlsi_model.proofs.SourceBits.{sound, stored_names_are}
use Rattle.vlsi_model.proofs.BuildGoals.{over_numbers, stored_bits_inside, laid_out}
use Rattle.vlsi_model.proofs.Counted.{stored_few}
use Rattle.vlsi_model.proofs.build.register_order.Goals as goal

pub name_order-requires-clause-inside : goal.name_order-requires-clause-inside
name_order-requires-clause-inside c =
    stored_bits_inside c.args.design.now c.args.source.now c.deref-2.result.now (sound c.args.design.now c.requires.sound) c.requires.source (c.deref-2.ensures.value ∙ c.in_ok-bits.ensures ∙ ap (map (λ (d : StoredBit). d.bit)) c.deref.ensures.value)

pub name_order-requires-clause-few : goal.name_order-requires-clause-few
name_order-requires-clause-few c =
    let few = stored_few c.args.design.now c.args.source.now (sound c.args.design.now c.requires.sound) c.requires.source in
    let same = ap (λ (xs : List ℕ). length xs) (c.deref-2.ensures.value ∙ c.in_ok-bits.ensures ∙ ap (map (λ (d : StoredBit). d.bit)) c.deref.ensures.value) in
    let count = length-map c.args.source.now.stored.items (λ (d : StoredBit). d.bit) in
    omega (arith, few, same, count)

pub name_order-requires-clause-different : goal.name_order-requires-clause-different
name_order-requires-clause-different c =
    let f = sound c.args.design.now c.requires.sound in
    over_numbers (λ (known : List Symbol). AllDifferent (map (name_at (all_names known)) c.deref-2.result.now)) c.args.design.now c.args.source.now c.requires.source
    (subst (λ (ns : List Name). AllDifferent ns) (sym (stored_names_are c.args.design.now c.args.source.now c.deref-2.result.now f c.requires.source (c.deref-2.ensures.value ∙ c.in_ok-bits.ensures ∙ ap (map (λ (d : StoredBit). d.bit)) c.deref.ensures.value))) f.stored_once)

pub returns : goal.returns
returns c =
    laid_out c.args.design.now c.args.source.now c.args.ports.now c.deref-2.result.now c.in_ok-order.order.items c.args.nodes.now (sound c.args.design.now c.requires.sound) c.requires.source
    (c.deref-2.ensures.value ∙ c.in_ok-bits.ensures ∙ ap (map (λ (d : StoredBit). d.bit)) c.deref.ensures.value) c.requires.moved c.requires.ordered c.in_ok-order.ensures.moved c.in_ok-order.ensures.ordered c.requires.nodes
