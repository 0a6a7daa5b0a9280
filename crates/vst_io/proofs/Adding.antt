-- Instances that are added one by one.
use Rattle.std.proofs.Common.{◌≡◌, ◌⊎◌, inl, inr, ℕ, zero, suc, ◌+◌, ◌<◌, ◌≤◌, Bool, true, false, cond, ◌||◌, List, [], ◌∷◌, map, length, take, Option, None, Some, refl, sym, ap, subst, ◌∙◌, bytes_eq, arith}
use Rattle.std.specs.List.{All, flat_map, list_any, sum_by}
use Rattle.std.proofs.lemmas.List.{length-append}
use Rattle.std.proofs.lemmas.List.Sums.{sum_by-cons}
use Rattle.vlsi_base.specs.Member.{In, here, there}
use Rattle.source_checks.proofs.Lookups.{same_of, itself}
use Rattle.net_core.specs.declared.pins.ModelPin.{ModelPin}
use Rattle.net_core.specs.declared.pins.ModelPins.{ModelPins}
use Rattle.net_core.specs.Places.{Stands, IsThere}
use Rattle.net_core.specs.Netlist.{Instance, AreInOrder, pin_of, pins_of}
use Rattle.net_core.specs.Checks.{pins_named}
use Rattle.vst_text.specs.declared.file.InstanceStatement.{InstanceStatement}
use Rattle.vst_io.specs.Nets.{instance_of}
use Rattle.vst_io.specs.Faults.{first_label_again}
use Rattle.vst_io.proofs.Fine.{map_length}
use Rattle.vst_io.proofs.Linked.{labels}

-- what is found from the instance at k on, where these labels stand before the first
abbrev pub again_from : List InstanceStatement → List (List ℕ) → ℕ → Option InstanceStatement
again_from is before zero = first_label_again before is
again_from [] before (suc k) = None
again_from (i ∷ is) before (suc k) = again_from is (i.label ∷ before) k

again_passed : (is : List InstanceStatement) (before : List (List ℕ)) (k : ℕ) (i : InstanceStatement) → Stands is k i → list_any (bytes_eq i.label) before ≡ false
    → (In i.label (labels (take k is)) → ⊥) → again_from is before k ≡ again_from is before (suc k)
again_passed [] before k i s e apart = absurd cc
again_passed (x ∷ is) before zero i s e apart =
    let same : x ≡ i = cc in
    let f : list_any (bytes_eq x.label) before ≡ false = subst (λ (y : InstanceStatement). list_any (bytes_eq y.label) before ≡ false) (sym same) e in
    ap (λ b. cond b (Some x) (first_label_again (x.label ∷ before) is)) f
again_passed (x ∷ is) before (suc k) i s e apart =
    again_passed is (x.label ∷ before) k i s (by (bytes_eq i.label x.label) refl) (λ h. apart (there h)) where
      by : (b : Bool) → bytes_eq i.label x.label ≡ b → (b || list_any (bytes_eq i.label) before) ≡ false
      by true f = absurd (apart (subst (λ (t : List ℕ). In i.label (t ∷ labels (take k is))) (same_of i.label x.label f) here))
      by false f = e

again_caught : (is : List InstanceStatement) (before : List (List ℕ)) (k : ℕ) (i : InstanceStatement) → Stands is k i
    → (list_any (bytes_eq i.label) before ≡ true) ⊎ In i.label (labels (take k is)) → again_from is before k ≡ Some i
again_caught [] before k i s h = absurd cc
again_caught (x ∷ is) before zero i s h =
    let same : x ≡ i = cc in
    let any : list_any (bytes_eq i.label) before ≡ true = elim h [ inl e ↦ e | inr g ↦ elim g [ ] ] in
    let f : list_any (bytes_eq x.label) before ≡ true = subst (λ (y : InstanceStatement). list_any (bytes_eq y.label) before ≡ true) (sym same) any in
    ap (λ b. cond b (Some x) (first_label_again (x.label ∷ before) is)) f ∙ ap (λ (y : InstanceStatement). Some y) same
again_caught (x ∷ is) before (suc k) i s h = again_caught is (x.label ∷ before) k i s (elim h [
  | inl e ↦ inl (either (bytes_eq i.label x.label) e)
  | inr g ↦ by g
]) where
  either : (b : Bool) → list_any (bytes_eq i.label) before ≡ true → (b || list_any (bytes_eq i.label) before) ≡ true
  either true e = refl
  either false e = e

  first : (t : List ℕ) → i.label ≡ t → (bytes_eq i.label t || list_any (bytes_eq i.label) before) ≡ true
  first t e = subst (λ (u : List ℕ). (bytes_eq i.label u || list_any (bytes_eq i.label) before) ≡ true) e (ap (λ b. b || list_any (bytes_eq i.label) before) (itself i.label))

  rest : {y : List ℕ} {ts : List (List ℕ)} → In i.label (y ∷ ts) → (i.label ≡ y) ⊎ In i.label ts
  rest here = inl refl
  rest (there g) = inr g

  by : In i.label (x.label ∷ labels (take k is)) → (list_any (bytes_eq i.label) (x.label ∷ before) ≡ true) ⊎ In i.label (labels (take k is))
  by g = elim (rest g) [ inl e ↦ inl (first x.label e) | inr later ↦ inr later ]

pub again_end : (is : List InstanceStatement) (before : List (List ℕ)) (k : ℕ) → length is ≤ k → again_from is before k ≡ None
again_end [] before zero h = refl
again_end [] before (suc k) h = refl
again_end (i ∷ is) before zero h = absurd (omega (arith, h))
again_end (i ∷ is) before (suc k) h = again_end is (i.label ∷ before) k (omega (arith, h))

names_of : (table : List ModelPins) (is : List InstanceStatement) → map (λ j. j.name) (map (instance_of table) is) ≡ labels is
names_of table [] = refl
names_of table (i ∷ is) = ap (λ (ts : List (List ℕ)). i.label ∷ ts) (names_of table is)

there_in : {X : Type 0} (xs : List X) (x : X) → IsThere xs x → In x xs
there_in {X} xs x h = at xs h.0 h.1 where
  at : (ys : List X) (k : ℕ) → Stands ys k x → In x ys
  at [] k e = absurd cc
  at (y ∷ ys) zero e = let same : y ≡ x = cc in subst (λ (z : X). In z (y ∷ ys)) same here
  at (y ∷ ys) (suc k) e = there (at ys k e)

in_there : {X : Type 0} (xs : List X) (x : X) → In x xs → IsThere xs x
in_there (y ∷ xs) x here = (zero, refl)
in_there (y ∷ xs) x (there h) = let r = in_there xs x h in (suc r.0, r.1)
in_there [] x h = elim h [ ]

pub again_on : (table : List ModelPins) (is : List InstanceStatement) (k : ℕ) (i : InstanceStatement) (found : Option InstanceStatement) → Stands is k i
    → (IsThere (map (λ j. j.name) (map (instance_of table) (take k is))) i.label → ⊥) → again_from is [] k ≡ found → again_from is [] (k + 1) ≡ found
again_on table is k i found s fresh so_far =
    let n : suc k ≡ k + 1 = omega arith in
    let apart : In i.label (labels (take k is)) → ⊥ = λ h. fresh (in_there (map (λ (j : Instance). j.name) (map (instance_of table) (take k is))) i.label (subst (λ (ts : List (List ℕ)). In i.label ts) (sym (names_of table (take k is))) h)) in
    ap (again_from is []) (sym n) ∙ sym (again_passed is [] k i s refl apart) ∙ so_far

pub again_here : (table : List ModelPins) (is : List InstanceStatement) (k : ℕ) (i : InstanceStatement) (found : Option InstanceStatement) → Stands is k i
    → IsThere (map (λ j. j.name) (map (instance_of table) (take k is))) i.label → again_from is [] k ≡ found → found ≡ Some i
again_here table is k i found s twice so_far =
    sym so_far ∙ again_caught is [] k i s (inr (subst (λ (ts : List (List ℕ)). In i.label ts) (names_of table (take k is)) (there_in (map (λ (j : Instance). j.name) (map (instance_of table) (take k is))) i.label twice)))

-- ---- how many terminals there are

abbrev pub pin_count : List ModelPins → InstanceStatement → ℕ
pin_count table i = length (pins_named table i.component)

pub pins_counted : (table : List ModelPins) (is : List InstanceStatement) → length (flat_map pins_of (map (instance_of table) is)) ≡ sum_by (pin_count table) is
pins_counted table [] = refl
pins_counted table (i ∷ is) =
    let own : length (pins_of (instance_of table i)) ≡ pin_count table i =
    map_length (pin_of i.label) (map (λ (p : ModelPin). p.name) (pins_named table i.component)) ∙ map_length (λ (p : ModelPin). p.name) (pins_named table i.component) in
    let rest : length (flat_map pins_of (map (instance_of table) is)) ≡ sum_by (pin_count table) is = pins_counted table is in
    length-append (pins_of (instance_of table i)) (flat_map pins_of (map (instance_of table) is)) ∙ ap (λ (n : ℕ). n + length (flat_map pins_of (map (instance_of table) is))) own ∙ ap (λ (n : ℕ). pin_count table i + n) rest ∙ sym (sum_by-cons (pin_count table) i is)

-- those of the first instances and of the next are no more than all
pub sum_next : (f : InstanceStatement → ℕ) (is : List InstanceStatement) (k : ℕ) (i : InstanceStatement) → Stands is k i → sum_by f (take k is) + f i ≤ sum_by f is
sum_next f [] k i s = absurd cc
sum_next f (x ∷ is) zero i s = let same : f x ≡ f i = ap f cc in let n : sum_by f (x ∷ is) ≡ f x + sum_by f is = sum_by-cons f x is in let z : sum_by f (take 0 (x ∷ is)) ≡ 0 = refl in omega (arith, same, n, z)
sum_next f (x ∷ is) (suc k) i s =
    let r = sum_next f is k i s in
    let n : sum_by f (x ∷ is) ≡ f x + sum_by f is = sum_by-cons f x is in
    let m : sum_by f (take (suc k) (x ∷ is)) ≡ f x + sum_by f (take k is) = sum_by-cons f x (take k is) in
    omega (arith, r, n, m)

-- where each counts, there are no more instances than their sum
pub sum_many : (f : InstanceStatement → ℕ) (is : List InstanceStatement) → ((i : InstanceStatement) → In i is → 0 < f i) → length is ≤ sum_by f is
sum_many f [] h = omega arith
sum_many f (i ∷ is) h =
    let r = sum_many f is (λ j g. h j (there g)) in
    let one = h i here in
    let n : sum_by f (i ∷ is) ≡ f i + sum_by f is = sum_by-cons f i is in
    omega (arith, r, one, n)

pub in_take : (is : List InstanceStatement) (k : ℕ) (i : InstanceStatement) → In i (take k is) → In i is
in_take [] zero i h = elim h [ ]
in_take [] (suc k) i h = elim h [ ]
in_take (x ∷ is) zero i h = elim h [ ]
in_take (x ∷ is) (suc k) i here = here
in_take (x ∷ is) (suc k) i (there h) = there (in_take is k i h)

-- ---- the pins of a model stand in order

pub named_order : (table : List ModelPins) (model : List ℕ) → All (λ m. AreInOrder (map (λ p. p.name) m.pins)) table → AreInOrder (map (λ p. p.name) (pins_named table model))
named_order [] model h = λ i j d p q. absurd (omega (arith, q))
named_order (m ∷ table) model h = by (bytes_eq m.model model) (named_order table model (λ k d l. h (suc k) d (omega (arith, l)))) where
  by : (b : Bool) → AreInOrder (map (λ p. p.name) (pins_named table model)) → AreInOrder (map (λ p. p.name) (cond b m.pins (pins_named table model)))
  by true rest = h 0 m (omega arith)
  by false rest = rest
