use Rattle.std.proofs.Common.{◌∙◌, sym, ap, subst, map, List}
use Rattle.vlsi_base.specs.declared.name.Name.{Name}
use Rattle.machine_core.specs.Order.{AllDifferent}
use Rattle.source_checks.specs.Symbols.{all_names}
use Rattle.vlsi_model.specs.declared.registers.NamedBit.{NamedBit}
use Rattle.vlsi_model.proofs.Naming.{names_of_named, order_moved, order_ordered}
use Rattle.vlsi_model.proofs.registers.name_order.Goals as goal

pub sorted_bits-requires : goal.sorted_bits-requires
sorted_bits-requires c = subst (λ (ns : List Name). AllDifferent ns) (sym (names_of_named (all_names c.args.numbers.now) c.args.bits.now c.in_ok-named.named.items c.in_ok-named.ensures)) c.requires.different

pub returns-clause-moved : goal.returns-clause-moved
returns-clause-moved c =
    order_moved (all_names c.args.numbers.now) c.args.bits.now c.in_ok-named.named.items c.in_ok-sorted.sorted.items c.in_ok-order.order.items c.in_ok-named.ensures c.in_ok-sorted.ensures.moved (c.in_ok-order.ensures ∙ ap (map (λ (b : NamedBit). b.place)) c.deref.ensures.value)

pub returns-clause-ordered : goal.returns-clause-ordered
returns-clause-ordered c =
    order_ordered (all_names c.args.numbers.now) c.args.bits.now c.in_ok-named.named.items c.in_ok-sorted.sorted.items c.in_ok-order.order.items c.in_ok-named.ensures c.in_ok-sorted.ensures.moved (c.in_ok-order.ensures ∙ ap (map (λ (b : NamedBit). b.place)) c.deref.ensures.value) c.in_ok-sorted.ensures.ordered
