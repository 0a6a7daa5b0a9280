-- The first name whose text a port has.
use Rattle.std.proofs.Common.{◌≡◌, ℕ, ◌<◌, Bool, true, false, List, [], ◌∷◌, map, length, get_or, Option, None, Some, refl, sym, ap, ◌∙◌, subst, arith}
use Rattle.std.specs.Prelude.{is_some}
use Rattle.std.specs.List.{list_any}
use Rattle.std.specs.FinMap.{get}
use Rattle.vlsi_base.specs.declared.name.Name.{Name}
use Rattle.vlsi_base.specs.declared.name.Port.{Port}
use Rattle.vlsi_base.specs.NamePlaces.{NamePlaces}
use Rattle.vlsi_base.specs.Names.{scalar}
use Rattle.vlsi_base.specs.Member.{In, here, there}
use Rattle.machine_core.specs.Named.{is_same_name}
use Rattle.machine_core.proofs.Names.{same_name-true, same_name-itself}
use Rattle.net_flat.specs.Taken.{port_texts, is_taken, IsFirst, is_indexed}

first_by : (test other : Name → Bool) (names : List Name) → ((n : Name) → test n ≡ other n) → (r : Option ℕ) → IsFirst test names r → IsFirst other names r
first_by test other names same None h = λ j d l. sym (same (get_or names j d)) ∙ h j d l
first_by test other names same (Some k) h = (h.0, λ d. sym (same (get_or names k d)) ∙ h.1 d, λ j d l. sym (same (get_or names j d)) ∙ h.2 j d l)

pub first_same : (names : List Name) (ports : List Port) (texts : List Name) (index : NamePlaces) (r : Option ℕ) {made : List Name} → texts ≡ made → made ≡ port_texts ports
    → ((n : Name) → is_some (get index n) ≡ list_any (λ m. is_same_name m n) texts) → IsFirst (is_indexed index) names r → IsFirst (is_taken ports) names r
first_same names ports texts index r e f looked h =
    first_by (is_indexed index) (is_taken ports) names
    (λ n. looked (scalar n.text) ∙ ap (λ (ts : List Name). list_any (λ m. is_same_name m (scalar n.text)) ts) (e ∙ f)) r h

-- ---- a text that is taken is that of a port

pub any_in : (names : List Name) (n : Name) → list_any (λ m. is_same_name m n) names ≡ true → In n names
any_in [] n e = absurd cc
any_in (m ∷ names) n e = by (is_same_name m n) refl e (any_in names n) where
  by : (b : Bool) → is_same_name m n ≡ b → list_any (λ m. is_same_name m n) (m ∷ names) ≡ true → (list_any (λ m. is_same_name m n) names ≡ true → In n names) → In n (m ∷ names)
  by true is e rest = subst (λ (x : Name). In x (m ∷ names)) (same_name-true m n is) here
  by false is e rest = there (rest (rw is at e))

pub in_any : (names : List Name) (n : Name) → In n names → list_any (λ m. is_same_name m n) names ≡ true
in_any (m ∷ names) _ here = rw (same_name-itself m) refl
in_any (m ∷ names) n (there i) = by (is_same_name m n) refl (in_any names n i) where
  by : (b : Bool) → is_same_name m n ≡ b → list_any (λ m. is_same_name m n) names ≡ true → list_any (λ m. is_same_name m n) (m ∷ names) ≡ true
  by true is e = rw is refl
  by false is e = rw is e
in_any [] n i = elim i [ ]
