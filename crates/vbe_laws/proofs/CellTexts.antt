-- Bytes are the text of a cell, or they have a refusal as one.
use Rattle.std.proofs.Common.{◌≡◌, ◌⊎◌, inl, inr, ℕ, ◌<◌, ◌≤◌, Bool, true, false, List, length, None, Some, arith, refl, ap}
use Rattle.std.proofs.lemmas.Bool.{cases_lt}
use Rattle.std.proofs.lemmas.List.Sorted.{length_permutation}
use Rattle.vlsi_base.specs.declared.name.Port.{Port}
use Rattle.vlsi_base.specs.declared.fault.InputFault.{InputFault}
use Rattle.vlsi_base.specs.declared.fault.ReadError.{ReadError}
use Rattle.vlsi_base.specs.declared.fault.ReadError.TheVariants as errors
use Rattle.vhdl_lexer.specs.Listing.{tokens_in}
use Rattle.source_checks.specs.declared.statement.DesignFile.{DesignFile}
use Rattle.source_checks.specs.Symbols.{symbols}
use Rattle.source_checks.specs.Checks.{most_ports}
use Rattle.vbe_io.specs.Text.{IsWritten, Refused, long, uncut, unwritten, faulty}
use Rattle.vbe_io.specs.Cell.{pin_bits, generic_values, is_left_out, IsOpaque, IsCellText, pins_error, CellRefused, other, wide}
use Rattle.vbe_io.specs.declared.cell_text.CellText.{CellText}
use Rattle.vbe_io.proofs.Cells.{different_pins, uncut_other, unwritten_other}
use Rattle.vbe_laws.specs.EachText.{EachCell}
use Rattle.vbe_laws.proofs.Arranging.{InNameOrder, in_name_order}
use Rattle.vbe_laws.proofs.Texts.{each_text}

abbrev Answer : List ℕ → Type 0
Answer bytes = ((cell : CellText) × IsCellText bytes cell) ⊎ ((e : ReadError) × CellRefused bytes e)

-- ---- without a machine

opaque : (bytes : List ℕ) (design : DesignFile) → IsWritten bytes design → IsOpaque design → Answer bytes
opaque bytes design written left = by (cases_lt most_ports (length bits)) where
  bits : List Port
  bits = pin_bits (symbols design)

  pins : InNameOrder (λ (p : Port). p.name) bits
  pins = in_name_order (λ (p : Port). p.name) bits (different_pins design None left)

  by : (most_ports < length bits) ⊎ (length bits ≤ most_ports) → Answer bytes
  by (inl many) = inr (pins_error bits, wide design written left (many, refl))
  by (inr few) =
      let same = length_permutation bits pins.list pins.moved in
      let cell : CellText = record { name = design.entity.name; ports = pins.list; generics = generic_values design.entity.generics; machine = None } in
      inl (cell, record { design = design; written = written; name = refl; generics = refl; behaviour = left; pins = (pins.moved, pins.order, omega (arith, same, few)) })

-- ---- what is left out was found by a check

clash : (b : Bool) → b ≡ true → b ≡ false → ⊥
clash true t f = absurd cc
clash false t f = absurd cc

left_out : (bytes : List ℕ) (f : InputFault) → Refused bytes (errors.Input f) → is_left_out (errors.Input f) ≡ true → Answer bytes
left_out bytes f (long many same) left = absurd (clash (is_left_out (errors.Input f)) left (ap is_left_out same))
left_out bytes f (uncut few is) left = absurd (clash (is_left_out (errors.Input f)) left (uncut_other bytes (errors.Input f) is))
left_out bytes f (unwritten few cut is) left = absurd (clash (is_left_out (errors.Input f)) left (unwritten_other (tokens_in bytes) (errors.Input f) is))
left_out bytes f (faulty design written (inl is)) left = opaque bytes design written (errors.Input f, is, left)
left_out bytes f (faulty design written (inr ring)) left = absurd (clash (is_left_out (errors.Input f)) left (ap is_left_out ring.1.is))

refused : (bytes : List ℕ) (e : ReadError) → Refused bytes e → (b : Bool) → is_left_out e ≡ b → Answer bytes
refused bytes e is false apart = inr (e, other is apart)
refused bytes errors.Memory is true left = let never : false ≡ true = left in absurd cc
refused bytes (errors.Limit l) is true left = let never : false ≡ true = left in absurd cc
refused bytes (errors.Input f) is true left = left_out bytes f is left

pub each_cell : EachCell
each_cell bytes = elim (each_text bytes) [
  | inl m ↦
      let design = m.1.design in
      let cell : CellText = record { name = design.entity.name; ports = m.0.ports; generics = generic_values design.entity.generics; machine = Some m.0 } in
      inl (cell, record { design = design; written = m.1.written; name = refl; generics = refl; behaviour = (m.1.passes, m.1.machine); pins = refl })
  | inr r ↦ refused bytes r.0 r.1 (is_left_out r.0) refl
]
