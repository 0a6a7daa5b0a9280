-- A cell's text: with a machine it is that machine's, and it isn't refused.
use Rattle.std.proofs.Common.{◌≡◌, ◌<◌, ℕ, true, false, List, length, Option, None, Some, inl, inr, arith, refl, sym, ap, ◌∙◌, subst}
use Rattle.std.proofs.lemmas.List.Sorted.{length_permutation}
use Rattle.vlsi_base.specs.declared.name.Port.{Port}
use Rattle.vlsi_base.specs.declared.fault.ReadError.{ReadError}
use Rattle.vlsi_base.specs.declared.fault.ReadError.TheVariants as errors
use Rattle.machine_core.specs.Machine.{Machine}
use Rattle.source_checks.specs.declared.statement.DesignFile.{DesignFile}
use Rattle.source_checks.specs.declared.symbol_table.Symbol.{Symbol}
use Rattle.source_checks.specs.Symbols.{symbols}
use Rattle.source_checks.specs.Checks.{most_ports, IsRefusedFor}
use Rattle.vbe_io.specs.Text.{IsWritten, Refused, long, uncut, unwritten, faulty}
use Rattle.vbe_io.specs.Cell.{pin_bits, is_left_out, IsOpaque, IsBehaviour, ArePins, other, wide}
use Rattle.vbe_io.specs.Laws.{CellIsMachine, CellNeverBoth}
use Rattle.vbe_io.proofs.AlikeSources.{refused_alike, symbols_alike}
use Rattle.vbe_io.proofs.Once.{pass_or_fail, written_once, cut_or_not, written_or_not, never_both}

pub cell_is_machine : CellIsMachine
cell_is_machine bytes cell m is same =
    let both = subst (λ (o : Option Machine). IsBehaviour is.design o) same is.behaviour in
    record { design = is.design; written = is.written; passes = both.0; machine = both.1 }

-- the first check that fails is for what is left out, so no other refusal is right
opaque_or_fault : (design : DesignFile) (e : ReadError) → IsOpaque design → IsRefusedFor design e → is_left_out e ≡ false → ⊥
opaque_or_fault design errors.Memory left is apart = is
opaque_or_fault design (errors.Input f) left (inl h) apart =
    let both : Some left.0 ≡ Some (errors.Input f) = sym left.1 ∙ h in let one : left.0 ≡ errors.Input f = cc in
    let never : true ≡ false = sym left.2 ∙ ap is_left_out one ∙ apart in absurd cc
opaque_or_fault design (errors.Input f) left (inr h) apart = let both : Some left.0 ≡ None = sym left.1 ∙ h.0 in absurd cc
opaque_or_fault design (errors.Limit l) left is apart = let both : Some left.0 ≡ None = sym left.1 ∙ is.0 in absurd cc

-- what is left out of one reading is left out of the other
opaque_is_fault : (design : DesignFile) (left : IsOpaque design) → IsRefusedFor design left.0
opaque_is_fault design (errors.Memory, is, left) = let never : false ≡ true = left in absurd cc
opaque_is_fault design (errors.Input f, is, left) = inl is
opaque_is_fault design (errors.Limit l, is, left) = let never : false ≡ true = left in absurd cc

opaque_refused : (bytes : List ℕ) (design : DesignFile) (e : ReadError) → IsWritten bytes design → IsOpaque design → Refused bytes e → is_left_out e ≡ false → ⊥
opaque_refused bytes design e written left (long many same) apart = let few = written.few in absurd (omega (arith, many, few))
opaque_refused bytes design e written left (uncut few some) apart = cut_or_not bytes e written.cut some
opaque_refused bytes design e written left (unwritten few cut against) apart = written_or_not bytes design e written against
opaque_refused bytes design e written left (faulty design' written' refused) apart =
    opaque_or_fault design e left (refused_alike design' design (written_once bytes design' design written' written) e refused) apart

never_wide : (bytes : List ℕ) (design design' : DesignFile) (m : Option Machine) (pins : List Port) → IsWritten bytes design → IsWritten bytes design' → IsBehaviour design m
    → ArePins (pin_bits (symbols design)) m pins → IsOpaque design' → most_ports < length (pin_bits (symbols design')) → ⊥
never_wide bytes design design' (Some m) pins written written' b p left many =
    pass_or_fail design left.0 b.0 (refused_alike design' design (written_once bytes design' design written' written) left.0 (opaque_is_fault design' left))
never_wide bytes design design' None pins written written' b p left many =
    let same : length (pin_bits (symbols design')) ≡ length (pin_bits (symbols design)) =
    ap (λ (known : List Symbol). length (pin_bits known)) (symbols_alike design' design (written_once bytes design' design written' written)) in
    let each = length_permutation (pin_bits (symbols design)) pins p.0 in
    let few = p.2 in
    absurd (omega (arith, same, each, few, many))

pub cell_never_both : CellNeverBoth
cell_never_both bytes cell e is (other refused apart) = by cell.machine is.behaviour refl where
  by : (o : Option Machine) → IsBehaviour is.design o → cell.machine ≡ o → ⊥
  by (Some m) b same = never_both bytes m e (cell_is_machine bytes cell m is same) refused
  by None b same = opaque_refused bytes is.design e is.written b refused apart
cell_never_both bytes cell e is (wide design written left many) =
    never_wide bytes is.design design cell.machine cell.ports is.written written is.behaviour is.pins left many.0
