-- Two readings of a cell's text say the same.
use Rattle.std.proofs.Common.{◌≡◌, true, false, List, Option, None, Some, inl, sym, ap, ◌∙◌, subst}
use Rattle.std.specs.List.Sorted.{IsPermutation}
use Rattle.std.proofs.lemmas.List.Sorted.{IsPermutation-sym}
use Rattle.vlsi_base.specs.declared.name.Port.{Port}
use Rattle.vlsi_base.specs.declared.fault.ReadError.{ReadError}
use Rattle.vlsi_base.specs.declared.fault.ReadError.TheVariants as errors
use Rattle.machine_core.specs.Machine.{Machine}
use Rattle.source_checks.specs.declared.statement.DesignFile.{DesignFile}
use Rattle.source_checks.specs.declared.symbol_table.Symbol.{Symbol}
use Rattle.source_checks.specs.Symbols.{symbols}
use Rattle.source_checks.specs.Checks.{first_fault, Passes, IsRefusedFor}
use Rattle.vbe_text.specs.Source.{SourceTree, source_view}
use Rattle.vbe_io.specs.Cell.{pin_bits, generic_values, is_left_out, IsOpaque, IsBehaviour, ArePins}
use Rattle.vbe_io.proofs.AlikeSources.{symbols_alike, refused_alike}
use Rattle.vbe_io.proofs.Once.{pass_or_fail, written_once}
use Rattle.vbe_laws.specs.OneMachine.{HaveSameMachines, CellsSayTheSame}
use Rattle.vlsi_model.proofs.OneOrder.{one_order}
use Rattle.vbe_laws.proofs.Readings.{machine_alike}
use Rattle.vbe_laws.proofs.Parts.{same_ports, same_parts}
use Rattle.vbe_laws.proofs.Weights.{same_machine_size}

left_out_fault : (design : DesignFile) (e : ReadError) → first_fault design ≡ Some e → is_left_out e ≡ true → IsRefusedFor design e
left_out_fault design errors.Memory is left = let never : false ≡ true = left in absurd cc
left_out_fault design (errors.Input f) is left = inl is
left_out_fault design (errors.Limit l) is left = let never : false ≡ true = left in absurd cc

-- a text that passes its checks leaves nothing out
passes_or_leaves_out : (a b : DesignFile) → source_view a ≡ source_view b → Passes a → IsOpaque b → ⊥
passes_or_leaves_out a b same passes left = pass_or_fail a left.0 passes (refused_alike b a (sym same) left.0 (left_out_fault b left.0 left.1 left.2))

same_behaviours : (a b : DesignFile) → source_view a ≡ source_view b → (o p : Option Machine) → IsBehaviour a o → IsBehaviour b p → HaveSameMachines o p
same_behaviours a b same None None h g = tt
same_behaviours a b same (Some m) None h g = passes_or_leaves_out a b same h.0 g
same_behaviours a b same None (Some k) h g = passes_or_leaves_out b a (sym same) g.0 h
same_behaviours a b same (Some m) (Some k) h g =
    let of = machine_alike b a (sym same) k g.1 in (same_machine_size a m k h.1 of, same_parts a m k h.1 of)

same_pins : (a b : DesignFile) → source_view a ≡ source_view b → (o p : Option Machine) (xs ys : List Port) → IsBehaviour a o → IsBehaviour b p
    → ArePins (pin_bits (symbols a)) o xs → ArePins (pin_bits (symbols b)) p ys → xs ≡ ys
same_pins a b same None None xs ys h g p q =
    let moved = subst (λ (known : List Symbol). IsPermutation (pin_bits known) ys) (sym (symbols_alike a b same)) q.0 in
    one_order (λ (x : Port). x.name) (pin_bits (symbols a)) xs ys
    (IsPermutation-sym (pin_bits (symbols a)) xs p.0) (IsPermutation-sym (pin_bits (symbols a)) ys moved) p.1 q.1
same_pins a b same (Some m) None xs ys h g p q = absurd (passes_or_leaves_out a b same h.0 g)
same_pins a b same None (Some k) xs ys h g p q = absurd (passes_or_leaves_out b a (sym same) g.0 h)
same_pins a b same (Some m) (Some k) xs ys h g p q = p ∙ same_ports a m k h.1 (machine_alike b a (sym same) k g.1) ∙ sym q

pub cells_say_the_same : CellsSayTheSame
cells_say_the_same bytes a b is of =
    let same : source_view is.design ≡ source_view of.design = written_once bytes is.design of.design is.written of.written in
    record {
      name = is.name ∙ ap (λ (t : SourceTree). t.entity.name) same ∙ sym of.name;
      ports = same_pins is.design of.design same a.machine b.machine a.ports b.ports is.behaviour of.behaviour is.pins of.pins;
      generics = is.generics ∙ ap (λ (t : SourceTree). generic_values t.entity.generics) same ∙ sym of.generics;
      machine = same_behaviours is.design of.design same a.machine b.machine is.behaviour of.behaviour;
    }
