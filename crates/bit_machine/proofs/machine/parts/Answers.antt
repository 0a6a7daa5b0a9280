use Rattle.std.proofs.Common.{ℕ, List, length, map, sym, ap, ◌∙◌, subst, arith}
use Rattle.vlsi_base.specs.declared.name.Name.{Name}
use Rattle.machine_core.specs.Order.{In, AllDifferent}
use Rattle.machine_core.specs.View.{equation_view, register_view}
use Rattle.source_bits.specs.declared.driven.DrivenBit.{DrivenBit}
use Rattle.source_bits.specs.declared.driven.StoredBit.{StoredBit}
use Rattle.source_bits.specs.Driven.{NumberedStorage, driven_view, stored_view}
use Rattle.vlsi_model.specs.Numbered.{driven_at, equation_from, register_from}
use Rattle.vlsi_model.specs.Nodes.{HasNodes}
use Rattle.vlsi_model.proofs.Building.{map-then}
use Rattle.bit_machine.specs.System.{system_of}
use Rattle.bit_machine.specs.Laid.{var_bits}
use Rattle.vlsi_model.proofs.Counted.{few_below}
use Rattle.bit_machine.proofs.Laying.{bits_different, bits_inside}
use Rattle.bit_machine.proofs.Reaching.{driven_inside, driven_over, stored_inside, stored_next, stored_enable, bits_below}
use Rattle.bit_machine.proofs.machine.parts.Goals as goal

pub places-requires-clause-inside : goal.places-requires-clause-inside
places-requires-clause-inside c = bits_below (system_of c.args.system.now) c.args.order.now c.args.bits.now (length c.as_slice-names.result.now) c.requires.system c.requires.laid c.requires.bits (ap length c.as_slice-names.ensures)

pub places-requires-clause-different : goal.places-requires-clause-different
places-requires-clause-different c =
    subst (λ (xs : List ℕ). AllDifferent xs) (sym c.requires.bits) (bits_different (system_of c.args.system.now) c.args.order.now c.requires.system c.requires.laid)

pub places-requires-clause-few : goal.places-requires-clause-few
places-requires-clause-few c =
    let s = system_of c.args.system.now in
    let bits = c.args.bits.now in
    let different = subst (λ (xs : List ℕ). AllDifferent xs) (sym c.requires.bits) (bits_different s c.args.order.now c.requires.system c.requires.laid) in
    let fit = few_below (length s.names) bits different (λ b i. bits_inside s c.args.order.now c.requires.system c.requires.laid b (subst (λ (xs : List ℕ). In b xs) c.requires.bits i)) in
    omega (arith, fit, c.requires.few)

pub equations-requires-clause-inside : goal.equations-requires-clause-inside
equations-requires-clause-inside c = driven_inside c.args.system.now c.requires.system c.deref.result.now (length c.as_slice-names.result.now) c.deref.ensures.value (ap length c.as_slice-names.ensures)

pub equations-requires-clause-over : goal.equations-requires-clause-over
equations-requires-clause-over c =
    driven_over c.args.system.now c.requires.system c.deref.result.now (length c.deref-2.result.now) c.deref.ensures.value (ap length c.deref-2.ensures.value ∙ c.in_ok-table.ensures.each ∙ ap length c.as_slice-names.ensures)

pub registers-requires-clause-inside : goal.registers-requires-clause-inside
registers-requires-clause-inside c = stored_inside c.args.system.now c.requires.system c.deref-3.result.now (length c.as_slice-names.result.now) c.deref-3.ensures.value (ap length c.as_slice-names.ensures)

pub registers-requires-clause-next : goal.registers-requires-clause-next
registers-requires-clause-next c =
    stored_next c.args.system.now c.requires.system c.deref-3.result.now (length c.deref-4.result.now) c.deref-3.ensures.value (ap length c.deref-4.ensures.value ∙ c.in_ok-table.ensures.each ∙ ap length c.as_slice-names.ensures)

pub registers-requires-clause-enable : goal.registers-requires-clause-enable
registers-requires-clause-enable c =
    stored_enable c.args.system.now c.requires.system c.deref-3.result.now (length c.deref-4.result.now) c.deref-3.ensures.value (ap length c.deref-4.ensures.value ∙ c.in_ok-table.ensures.each ∙ ap length c.as_slice-names.ensures)

pub returns : goal.returns
returns c =
    let sys = c.args.system.now in
    let names = c.as_slice-names.result.now in
    let table = c.in_ok-table.table.items in
    let order = c.args.order.now in
    record {
      table = table;
      has = subst (λ (n : ℕ). HasNodes (var_bits (system_of sys) order) table n) (ap length c.as_slice-names.ensures) (subst (λ (bs : List ℕ). HasNodes bs table (length names)) c.requires.bits c.in_ok-table.ensures);
      equations_are = ap (map equation_view) c.new.ensures ∙ c.in_ok-equations.ensures
          ∙ ap (λ (ns : List Name). map (λ k. equation_from ns c.deref-2.result.now (driven_at (map driven_view c.deref.result.now) k)) order) c.as_slice-names.ensures
          ∙ ap (λ (t : List ℕ). map (λ k. equation_from sys.names t (driven_at (map driven_view c.deref.result.now) k)) order) c.deref-2.ensures.value
          ∙ ap (λ (ds : List DrivenBit). map (λ k. equation_from sys.names table (driven_at (map driven_view ds) k)) order) c.deref.ensures.value;
      registers_are = ap (map register_view) c.new-2.ensures ∙ c.in_ok-registers.ensures
          ∙ ap (λ (ns : List Name). map (λ (s : StoredBit). register_from ns c.deref-4.result.now (stored_view s)) c.deref-3.result.now) c.as_slice-names.ensures
          ∙ ap (λ (t : List ℕ). map (λ (s : StoredBit). register_from sys.names t (stored_view s)) c.deref-3.result.now) c.deref-4.ensures.value
          ∙ ap (λ (ds : List StoredBit). map (λ (s : StoredBit). register_from sys.names table (stored_view s)) ds) c.deref-3.ensures.value
          ∙ sym (map-then (λ (r : NumberedStorage). register_from sys.names table r) stored_view sys.stored.items);
    }
