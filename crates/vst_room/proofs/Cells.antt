-- The pins of a cell are no bits of vectors where its own aren't, since vdd and vss are none.
use Rattle.std.proofs.Common.{◌≡◌, inl, inr, List, ◌∷◌, filter, None, refl, sym, ap, ◌∙◌}
use Rattle.vlsi_base.specs.declared.name.Name.{Name}
use Rattle.vlsi_base.specs.declared.name.Port.{Port}
use Rattle.vlsi_base.specs.Member.{In}
use Rattle.vlsi_base.specs.Names.{vdd, vss, comes_before}
use Rattle.machine_core.specs.Machine.{names_of}
use Rattle.machine_core.proofs.Values.{In-split}
use Rattle.vlsi_model.proofs.Members.{In-map_back, In-cases}
use Rattle.cell_model.specs.Cell.{Cell, pin_ports}
use Rattle.cell_pins.specs.Pins.{supply, with_supply, all_ports}
use Rattle.cell_pins.proofs.Ports.{in_filter}

-- no port is a bit of a vector
abbrev AreScalar : List Port → Type 0
AreScalar ps = (p : Port) → In p ps → p.name.bit ≡ None

supplied : (name : Name) (ps : List Port) → name.bit ≡ None → AreScalar ps → AreScalar (with_supply name ps)
supplied name ps own each p i =
    let before = filter (λ (q : Port). comes_before q.name name) ps in
    let behind = filter (λ (q : Port). comes_before name q.name) ps in
    elim (In-split p before (supply name ∷ behind) i) [
      | inl a ↦ each p (in_filter (λ (q : Port). comes_before q.name name) ps p a).0
      | inr b ↦ elim (In-cases p (supply name) behind b) [
        | inl same ↦ sym (ap (λ (q : Port). q.name.bit) same) ∙ own
        | inr c ↦ each p (in_filter (λ (q : Port). comes_before name q.name) ps p c).0
      ]
    ]

pub cell_is_scalar : (c : Cell) → AreScalar (pin_ports c) → (pin : Name) → In pin (names_of (all_ports c)) → pin.bit ≡ None
cell_is_scalar c each pin i =
    let p = In-map_back (λ (q : Port). q.name) pin (all_ports c) i in
    sym (ap (λ (n : Name). n.bit) p.2) ∙ supplied vss (with_supply vdd (pin_ports c)) refl (supplied vdd (pin_ports c) refl each) p.0 p.1
