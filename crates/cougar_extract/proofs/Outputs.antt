-- The output pins of a cell, as a test and as a list.
use Rattle.std.proofs.Common.{◌≡◌, ◌⊎◌, inl, inr, ◌↔◌, ℕ, zero, suc, ◌+◌, take, Bool, true, false, not, ◌&&◌, ◌||◌, cond, List, [], ◌∷◌, map, filter, Option, None, Some, refl, sym, ap, subst, ◌∙◌, add-one}
use Rattle.std.specs.Prelude.{IsTrue}
use Rattle.std.specs.List.{list_any}
use Rattle.vlsi_base.specs.declared.name.Name.{Name}
use Rattle.vlsi_base.specs.declared.name.Port.{Port}
use Rattle.std.proofs.lemmas.Option.{same_Some}
use Rattle.vlsi_base.specs.declared.name.Dir.{Dir}
use Rattle.vlsi_base.specs.declared.name.Dir.TheVariants as dir
use Rattle.vlsi_base.specs.Member.{In, here, there}
use Rattle.machine_core.specs.Machine.{is_input, names_of}
use Rattle.machine_core.specs.Named.{is_same_name}
use Rattle.machine_core.proofs.Names.{same_name-true, same_name-itself}
use Rattle.cell_model.specs.Cell.{Cell, pin_ports, cell_outputs}
use Rattle.cell_model.specs.declared.cell.Pin.{Pin}
use Rattle.net_core.specs.Places.{Stands}
use Rattle.cougar_extract.specs.Stages.{is_output_port, is_output}

abbrev pub gives : Port → Bool
gives p = not (is_input p.dir)

abbrev pub test : Name → Port → Bool
test name p = is_output_port name p

listed : (ports : List Port) (name : Name) → list_any (test name) ports ≡ true → In name (names_of (filter gives ports))
listed [] name e = absurd (cc e)
listed (p ∷ ports) name e = by (gives p) (is_same_name p.name name) refl refl (listed ports name) e where
  by : (a b : Bool) → gives p ≡ a → is_same_name p.name name ≡ b → (list_any (test name) ports ≡ true → In name (names_of (filter gives ports)))
      → ((a && b) || list_any (test name) ports) ≡ true → In name (names_of (cond a (p ∷ filter gives ports) (filter gives ports)))
  by true true g s rest h = subst (λ (n : Name). In n (names_of (p ∷ filter gives ports))) (same_name-true p.name name s) here
  by true false g s rest h = there (rest h)
  by false b g s rest h = rest h

split : (x y : Name) (ys : List Name) → In x (y ∷ ys) → (y ≡ x) ⊎ In x ys
split x _ ys here = inl refl
split x y ys (there h) = inr h

found : (ports : List Port) (name : Name) → In name (names_of (filter gives ports)) → list_any (test name) ports ≡ true
found [] name h = elim h [ ]
found (p ∷ ports) name h = by (gives p) refl (found ports name) h where
  same : (n : Name) → n ≡ name → is_same_name n name ≡ true
  same n e = subst (λ (x : Name). is_same_name n x ≡ true) e (same_name-itself n)

  both : (b : Bool) → list_any (test name) ports ≡ true → (b || list_any (test name) ports) ≡ true
  both true r = refl
  both false r = r

  head : (n : Name) → In name (n ∷ names_of (filter gives ports)) → (In name (names_of (filter gives ports)) → list_any (test name) ports ≡ true)
      → (is_same_name n name || list_any (test name) ports) ≡ true
  head n i rest = elim (split name n (names_of (filter gives ports)) i) [
    | inl e ↦ ap (λ (b : Bool). b || list_any (test name) ports) (same n e)
    | inr j ↦ both (is_same_name n name) (rest j)
  ]

  by : (a : Bool) → gives p ≡ a → (In name (names_of (filter gives ports)) → list_any (test name) ports ≡ true)
      → In name (names_of (cond a (p ∷ filter gives ports) (filter gives ports))) → ((a && is_same_name p.name name) || list_any (test name) ports) ≡ true
  by true g rest i = head p.name i rest
  by false g rest i = rest i

pub output_listed : (c : Cell) (name : Name) → is_output c (Some name) ≡ true → In name (cell_outputs c)
output_listed c name e = listed (pin_ports c) name e

pub output_found : (c : Cell) (name : Name) → In name (cell_outputs c) → is_output c (Some name) ≡ true
output_found c name h = found (pin_ports c) name h

-- what is an output has a name
pub output_named : (c : Cell) (o : Option Name) → is_output c o ≡ true → (name : Name) × (o ≡ Some name) × In name (cell_outputs c)
output_named c None e = absurd (cc e)
output_named c (Some name) e = (name, refl, output_listed c name e)

-- ---- pin by pin

abbrev port_of : Pin → Port
port_of p = p.port

or_false : (a b : Bool) → a ≡ false → b ≡ false → (a || b) ≡ false
or_false false b p q = q
or_false true b p q = absurd (cc p)

none_suc : (name : Name) (pins : List Pin) (k : ℕ) (p : Pin) → Stands pins k p → test name p.port ≡ false
    → list_any (test name) (map port_of (take k pins)) ≡ false → list_any (test name) (map port_of (take (suc k) pins)) ≡ false
none_suc name [] k p at fails so_far = absurd (cc at)
none_suc name (x ∷ pins) zero p at fails so_far =
    let same : x ≡ p = same_Some x p at in
    or_false (test name x.port) false (subst (λ (y : Pin). test name y.port ≡ false) (sym same) fails) refl
none_suc name (x ∷ pins) (suc k) p at fails so_far = by (test name x.port) so_far (none_suc name pins k p at fails) where
  by : (b : Bool) → (b || list_any (test name) (map port_of (take k pins))) ≡ false
      → (list_any (test name) (map port_of (take k pins)) ≡ false → list_any (test name) (map port_of (take (suc k) pins)) ≡ false)
      → (b || list_any (test name) (map port_of (take (suc k) pins))) ≡ false
  by true h rest = absurd (cc h)
  by false h rest = rest h

pub none_next : (name : Name) (pins : List Pin) (k : ℕ) (p : Pin) → Stands pins k p → test name p.port ≡ false
    → list_any (test name) (map port_of (take k pins)) ≡ false → list_any (test name) (map port_of (take (k + 1) pins)) ≡ false
none_next name pins k p at fails so_far =
    let next : suc k ≡ k + 1 = sym (add-one k) in
    let P : ℕ → Type 0 = λ j. list_any (test name) (map port_of (take j pins)) ≡ false in subst P next (none_suc name pins k p at fails so_far)

pub one_found : (name : Name) (pins : List Pin) (k : ℕ) (p : Pin) → Stands pins k p → test name p.port ≡ true → list_any (test name) (map port_of pins) ≡ true
one_found name [] k p at passes = absurd (cc at)
one_found name (x ∷ pins) zero p at passes =
    let same : x ≡ p = same_Some x p at in
    ap (λ (b : Bool). b || list_any (test name) (map port_of pins)) (subst (λ (y : Pin). test name y.port ≡ true) (sym same) passes)
one_found name (x ∷ pins) (suc k) p at passes = by (test name x.port) (one_found name pins k p at passes) where
  by : (b : Bool) → list_any (test name) (map port_of pins) ≡ true → (b || list_any (test name) (map port_of pins)) ≡ true
  by true h = refl
  by false h = h

-- what the two tests of a pin come to
pub tested : (name : Name) (p : Port) → p.dir ≡ dir.Out → p.name ≡ name → test name p ≡ true
tested name p way named =
    ap (λ (d : Dir). not (is_input d) && is_same_name p.name name) way ∙ subst (λ (n : Name). is_same_name p.name n ≡ true) named (same_name-itself p.name)

pub not_tested : (name : Name) (p : Port) → (p.dir ≡ dir.Out → p.name ≡ name → ⊥) → test name p ≡ false
not_tested name p never = by p.dir (is_same_name p.name name) refl refl where
  by : (d : Dir) (b : Bool) → p.dir ≡ d → is_same_name p.name name ≡ b → (not (is_input d) && b) ≡ false
  by dir.In b way same = refl
  by dir.Out true way same = absurd (never way (same_name-true p.name name same))
  by dir.Out false way same = refl

-- ---- the test of a pin, as it is made

pub in_told : (name : Name) (p : Port) → p.dir ≡ dir.In → false ≡ is_output_port name p
in_told name p way = sym (ap (λ (d : Dir). not (is_input d) && is_same_name p.name name) way)

pub same_told : (name : Name) (p : Port) (b : Bool) → p.dir ≡ dir.Out → (IsTrue b ↔ (p.name ≡ name)) → b ≡ is_output_port name p
same_told name p b way both = by b (is_same_name p.name name) refl refl ∙ sym (ap (λ (d : Dir). not (is_input d) && is_same_name p.name name) way) where
  by : (x y : Bool) → b ≡ x → is_same_name p.name name ≡ y → b ≡ is_same_name p.name name
  by true true e s = e ∙ sym s
  by false false e s = e ∙ sym s
  by true false e s =
      let named : p.name ≡ name = both.0 e in
      let yes : is_same_name p.name name ≡ true = subst (λ (n : Name). is_same_name p.name n ≡ true) named (same_name-itself p.name) in
      let clash : true ≡ false = sym yes ∙ s in
      absurd cc
  by false true e s = let yes : IsTrue b = both.1 (same_name-true p.name name s) in let clash : true ≡ false = sym yes ∙ e in absurd cc
