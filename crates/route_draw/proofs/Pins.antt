-- How many pins of instances are no supplies: at least as many as the signal pins of their cells.
use Rattle.std.proofs.Common.{◌≡◌, ◌≢◌, ◌⊎◌, inl, inr, ℕ, suc, ◌+◌, ◌≤◌, Bool, true, false, List, [], ◌∷◌, map, filter, length, Option, None, Some, refl, sym, ap, subst, ◌∙◌, arith, length-append}
use Rattle.std.specs.Prelude.{sum_by}
use Rattle.std.specs.Ordering.{is_lt, ordering_reverse}
use Rattle.std.specs.declared.cmp.Ordering.{Ordering}
use Rattle.std.specs.declared.cmp.Ordering.TheVariants.{Less, Equal, Greater}
use Rattle.std.proofs.lemmas.List.Elements.{filter-append}
use Rattle.std.proofs.lemmas.List.Sums.{sum_by-cons}
use Rattle.vlsi_base.specs.declared.name.Name.{Name}
use Rattle.vlsi_base.specs.declared.name.Port.{Port}
use Rattle.vlsi_base.specs.Name.{name_cmp}
use Rattle.vlsi_base.specs.Names.{vdd, vss, comes_before}
use Rattle.vlsi_base.specs.Member.{In, here, there}
use Rattle.vlsi_base.proofs.NameOrder.{name_total, name_exact}
use Rattle.machine_core.specs.Machine.{names_of}
use Rattle.cell_model.specs.Cell.{Cell, pin_ports}
use Rattle.cell_model.specs.Library.{Library, cell_of}
use Rattle.cell_model.specs.Usable.{IsFormed}
use Rattle.cell_model.proofs.Members.{In-map}
use Rattle.cell_pins.specs.Pins.{supply, with_supply, all_ports}
use Rattle.net_meaning.specs.Netlist.{Member}
use Rattle.net_drawing.proofs.Coding.{same_name_false}
use Rattle.ocp_place.specs.Nets.{is_signal}

-- ---- lists

-- one more element takes none away
one_more : {A : Type 0} (w : A → Bool) (x : A) (xs : List A) → length (filter w xs) ≤ length (filter w (x ∷ xs))
one_more w x xs = by (w x) refl where
  by : (b : Bool) → w x ≡ b → length (filter w xs) ≤ length (filter w (x ∷ xs))
  by true e = rw e (omega arith)
  by false e = rw e (omega arith)

-- what passes one test passes one of two others: these together keep it all
parted : {A : Type 0} (w t u : A → Bool) → ((x : A) → w x ≡ true → (t x ≡ true) ⊎ (u x ≡ true)) → (xs : List A)
    → length (filter w xs) ≤ length (filter w (filter t xs)) + length (filter w (filter u xs))
parted w t u each [] = omega arith
parted w t u each (x ∷ xs) = by (w x) (t x) (u x) refl refl refl (parted w t u each xs) where
  by : (a b c : Bool) → w x ≡ a → t x ≡ b → u x ≡ c → length (filter w xs) ≤ length (filter w (filter t xs)) + length (filter w (filter u xs))
      → length (filter w (x ∷ xs)) ≤ length (filter w (filter t (x ∷ xs))) + length (filter w (filter u (x ∷ xs)))
  by true true true e f g before = rw (e, f, g) (rw e (omega (arith, before)))
  by true true false e f g before = rw (e, f, g) (rw e (omega (arith, before)))
  by true false true e f g before = rw (e, f, g) (rw e (omega (arith, before)))
  by true false false e f g before = elim (each x e) [
    | inl h ↦ let no : true ≡ false = sym h ∙ f in absurd (cc no)
    | inr h ↦ let no : true ≡ false = sym h ∙ g in absurd (cc no)
  ]
  by false true true e f g before = rw (e, f, g) (rw e (omega (arith, before)))
  by false true false e f g before = rw (e, f, g) (rw e (omega (arith, before)))
  by false false true e f g before = rw (e, f, g) (rw e (omega (arith, before)))
  by false false false e f g before = rw (e, f, g) (omega (arith, before))

-- a test that all pass keeps all
all_kept : {A : Type 0} (w : A → Bool) (xs : List A) → ((x : A) → In x xs → w x ≡ true) → length (filter w xs) ≡ length xs
all_kept w [] each = refl
all_kept w (x ∷ xs) each = let e = each x here in let rest = all_kept w xs (λ y i. each y (there i)) in rw e (ap suc rest)

-- ports are kept by their names as these are
by_names : (w : Name → Bool) (ps : List Port) → length (filter w (names_of ps)) ≡ length (filter (λ p. w p.name) ps)
by_names w [] = refl
by_names w (p ∷ ps) = by (w p.name) refl (by_names w ps) where
  by : (b : Bool) → w p.name ≡ b → length (filter w (names_of ps)) ≡ length (filter (λ q. w q.name) ps)
      → length (filter w (names_of (p ∷ ps))) ≡ length (filter (λ q. w q.name) (p ∷ ps))
  by true e rest = rw e (ap suc rest)
  by false e rest = rw e rest

-- ---- the pins of a cell

signal_of : (name : Name) → name ≢ vdd → name ≢ vss → is_signal name ≡ true
signal_of name no_vdd no_vss = rw (same_name_false name vdd no_vdd, same_name_false name vss no_vss) refl

no_vdd_of : (name : Name) → is_signal name ≡ true → name ≢ vdd
no_vdd_of name e is = let a : is_signal vdd ≡ true = subst (λ (x : Name). is_signal x ≡ true) is e in let b : false ≡ true = a in cc b

no_vss_of : (name : Name) → is_signal name ≡ true → name ≢ vss
no_vss_of name e is = let a : is_signal vss ≡ true = subst (λ (x : Name). is_signal x ≡ true) is e in let b : false ≡ true = a in cc b

-- of two names that differ one comes first
either_side : (a b : Name) → a ≢ b → (comes_before a b ≡ true) ⊎ (comes_before b a ≡ true)
either_side a b apart = by (name_cmp a b) refl where
  by : (o : Ordering) → name_cmp a b ≡ o → (comes_before a b ≡ true) ⊎ (comes_before b a ≡ true)
  by Less e = inl (ap is_lt e)
  by Equal e = absurd (apart (name_exact a b e))
  by Greater e =
      let turned : name_cmp b a ≡ Less = name_total.antisymm b a ∙ ap ordering_reverse e in inr (ap is_lt turned)

-- how many ports are no supplies
abbrev signals : List Port → ℕ
signals ps = length (filter (λ p. is_signal p.name) ps)

-- none of these goes away where a supply is put in
supply_keeps : (name : Name) → ((other : Name) → is_signal other ≡ true → other ≢ name) → (ps : List Port)
    → signals ps ≤ signals (with_supply name ps)
supply_keeps name apart ps =
    let w = λ (p : Port). is_signal p.name in
    let low = filter (λ (p : Port). comes_before p.name name) ps in
    let high = filter (λ (p : Port). comes_before name p.name) ps in
    let a = parted w (λ (p : Port). comes_before p.name name) (λ (p : Port). comes_before name p.name)
    (λ p e. either_side p.name name (apart p.name e)) ps in
    let b = ap (λ (qs : List Port). length qs) (filter-append w low (supply name ∷ high)) in
    let c = length-append (filter w low) (filter w (supply name ∷ high)) in
    let d = one_more w (supply name) high in
    omega (arith, a, b, c, d)

pub cell_signals : (c : Cell) → IsFormed c → length (pin_ports c) ≤ length (filter is_signal (names_of (all_ports c)))
cell_signals c formed =
    let a = all_kept (λ (p : Port). is_signal p.name) (pin_ports c) (λ p i.
    let no = formed.signals p.name (In-map (λ (q : Port). q.name) p (pin_ports c) i) in signal_of p.name no.0 no.1) in
    let b = supply_keeps vdd no_vdd_of (pin_ports c) in
    let d = supply_keeps vss no_vss_of (with_supply vdd (pin_ports c)) in
    let e = by_names is_signal (all_ports c) in
    omega (arith, a, b, d, e)

-- ---- the signal pins of instances

abbrev pub cell_pins : Option Cell → ℕ
cell_pins None = 0
cell_pins (Some c) = length (pin_ports c)

-- how many the cell of an instance has
abbrev pub signal_pins : Library → Member → ℕ
signal_pins l one = cell_pins (cell_of l one.model)

-- sums over elements and over what they become
pub sums_less : {A B : Type 0} (f : B → ℕ) (g : A → ℕ) (h : A → B) (xs : List A) → ((x : A) → In x xs → f (h x) ≤ g x)
    → sum_by f (map h xs) ≤ sum_by g xs
sums_less f g h [] each = omega arith
sums_less f g h (x ∷ xs) each =
    let a = sum_by-cons f (h x) (map h xs) in
    let b = sum_by-cons g x xs in
    let c = each x here in
    let d = sums_less f g h xs (λ y i. each y (there i)) in
    omega (arith, a, b, c, d)
