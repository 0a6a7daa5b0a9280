-- The pins of the gates that are put in.
use Rattle.std.proofs.Common.{◌≡◌, ◌≢◌, inl, inr, ◌+◌, Bool, true, false, not, List, [], ◌∷◌, filter, length, length-append}
use Rattle.std.proofs.Common.{refl, sym, ◌∙◌, ap, arith, if◌then◌else◌}
use Rattle.std.specs.Ordering.{is_lt, ordering_reverse}
use Rattle.std.specs.declared.cmp.Ordering.{Ordering}
use Rattle.std.specs.declared.cmp.Ordering.TheVariants.{Less, Equal, Greater}
use Rattle.vlsi_base.specs.declared.name.Name.{Name}
use Rattle.vlsi_base.specs.declared.name.Port.{Port}
use Rattle.vlsi_base.specs.Name.{name_cmp}
use Rattle.vlsi_base.specs.Names.{vdd, vss, comes_before}
use Rattle.vlsi_base.specs.Member.{In, here, there}
use Rattle.vlsi_base.proofs.NameOrder.{name_total, name_exact}
use Rattle.machine_core.specs.Machine.{is_input, names_of}
use Rattle.vlsi_base.specs.declared.kind.Kind.TheVariants as kind
use Rattle.cell_model.specs.Cell.{Function, gate, flip_flop, other, opaque, Cell, pin_ports, cell_inputs, cell_outputs}
use Rattle.cell_model.specs.Covering.{IsFunctionOf}
use Rattle.cell_model.specs.Library.{Library, IsPlain}
use Rattle.cell_model.specs.Usable.{IsFormed}
use Rattle.cell_model.proofs.Members.{All-In, In-map}
use Rattle.cell_checks.specs.Checked.{IsChecked as HasPassed}
use Rattle.cell_pins.specs.Pins.{supply, with_supply, all_ports}
use Rattle.cell_pins.proofs.Ports.{with_cases}
use Rattle.net_right.proofs.Ports.{supplies_differ}
use Rattle.net_theory.proofs.Basics.{length-map}
use Rattle.loon_wiring.specs.Repeaters.{Repeater, IsRepeater, buffer, inverters, GivesItsInput, IsBufferCell, IsInverterCell}
use Rattle.loon_drive.proofs.Lists.{stands_in}

-- what one of two tests keeps is what the other leaves
two_parts : {A : Type 0} (p q : A → Bool) (xs : List A) → ((x : A) → In x xs → q x ≡ not (p x)) → length (filter p xs) + length (filter q xs) ≡ length xs
two_parts p q [] opposite = refl
two_parts {A} p q (x ∷ xs) opposite = by (p x) (q x) (opposite x here) (two_parts p q xs (λ y i. opposite y (there i))) where
  by : (a b : Bool) → b ≡ not a → length (filter p xs) + length (filter q xs) ≡ length xs
      → length (if a then x ∷ filter p xs else filter p xs) + length (if b then x ∷ filter q xs else filter q xs) ≡ length (x ∷ xs)
  by true true e h = absurd (cc e)
  by true false e h = omega (arith, h)
  by false true e h = omega (arith, h)
  by false false e h = absurd (cc e)

-- of two names one stands before the other
one_first : (a b : Name) → a ≢ b → comes_before b a ≡ not (comes_before a b)
one_first a b apart = by (name_cmp a b) refl where
  by : (o : Ordering) → name_cmp a b ≡ o → comes_before b a ≡ not (comes_before a b)
  by Less e = ap is_lt (name_total.antisymm b a ∙ ap ordering_reverse e) ∙ sym (ap (λ (o : Ordering). not (is_lt o)) e)
  by Equal e = absurd (apart (name_exact a b e))
  by Greater e = ap is_lt (name_total.antisymm b a ∙ ap ordering_reverse e) ∙ sym (ap (λ (o : Ordering). not (is_lt o)) e)

-- a supply is one pin more where none has its name
one_more : (name : Name) (ps : List Port) → ((p : Port) → In p ps → p.name ≢ name) → length (with_supply name ps) ≡ length ps + 1
one_more name ps apart =
    let parts = two_parts (λ (p : Port). comes_before p.name name) (λ (p : Port). comes_before name p.name) ps (λ p i. one_first p.name name (apart p i)) in
    let both = length-append (filter (λ p. comes_before p.name name) ps) (supply name ∷ filter (λ p. comes_before name p.name) ps) in
    omega (arith, parts, both)

-- a gate of one input and one output has these and its supplies
four_pins : (c : Cell) → IsFormed c → length (cell_inputs c) ≡ 1 → length (cell_outputs c) ≡ 1 → length (names_of (all_ports c)) ≡ 4
four_pins c formed ins outs =
    let parts = two_parts (λ (p : Port). is_input p.dir) (λ (p : Port). not (is_input p.dir)) (pin_ports c) (λ p i. refl) in
    let a = length-map (λ (p : Port). p.name) (filter (λ p. is_input p.dir) (pin_ports c)) in
    let b = length-map (λ (p : Port). p.name) (filter (λ p. not (is_input p.dir)) (pin_ports c)) in
    let high = one_more vdd (pin_ports c) (λ p i. (own p i).0) in
    let low = one_more vss (with_supply vdd (pin_ports c)) no_low in
    let named = length-map (λ (p : Port). p.name) (all_ports c) in
    omega (arith, parts, a, b, high, low, named, ins, outs) where
      own : (p : Port) → In p (pin_ports c) → (p.name ≢ vdd) × (p.name ≢ vss)
      own p i = formed.signals p.name (In-map (λ (q : Port). q.name) p (pin_ports c) i)

      no_low : (p : Port) → In p (with_supply vdd (pin_ports c)) → p.name ≢ vss
      no_low p i = elim (with_cases vdd (pin_ports c) p i) [
        | inl is ↦ λ e. supplies_differ (sym (ap (λ (q : Port). q.name) is) ∙ e)
        | inr j ↦ (own p j).1
      ]

abbrev IsOneToOne : Cell → Type 0
IsOneToOne c = (length (cell_inputs c) ≡ 1) × (length (cell_outputs c) ≡ 1)

of_buffer : (c : Cell) → IsBufferCell c → IsOneToOne c
of_buffer c b = by c.function b.0.function b.1 where
  by : (f : Function) → IsPlain c f → GivesItsInput f (length (cell_inputs c)) → IsOneToOne c
  by (gate e) plain g = (g.0, plain.0)
  by (flip_flop data_pin clock_pin) plain g = absurd g
  by (other machine) plain g = absurd g
  by opaque plain g = absurd g

of_inverter : (c : Cell) → IsInverterCell c → IsOneToOne c
of_inverter c b = by c.function b.0.function b.1 where
  by : (f : Function) → IsPlain c f → IsFunctionOf f (length (cell_inputs c)) kind.Inv → IsOneToOne c
  by (gate e) plain g = (g.0, plain.0)
  by (flip_flop data_pin clock_pin) plain g = absurd (cc g)
  by (other machine) plain g = absurd g
  by opaque plain g = absurd g

-- the cell of a repeater
pub repeater_pins : (l : Library) (b : Repeater) → HasPassed false l → IsRepeater l.cells b → length (names_of (all_ports b.cell)) ≡ 4
repeater_pins l b passed (buffer {c = c} first) =
    let one = of_buffer c first.holds in
    four_pins c (All-In IsFormed l.cells passed.formed c (stands_in l.cells first.place c first.stands)) one.0 one.1
repeater_pins l b passed (inverters {c = c} none first) =
    let one = of_inverter c first.holds in
    four_pins c (All-In IsFormed l.cells passed.formed c (stands_in l.cells first.place c first.stands)) one.0 one.1
