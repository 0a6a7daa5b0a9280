-- Numbers of names, and formulas over them.
use Rattle.std.proofs.Common.{◌≡◌, ◌⊎◌, inl, inr, ℕ, zero, suc, ◌+◌, ◌<◌, Bool, true, false, cond, List, [], ◌∷◌, ◌++◌, map, length, get_or, refl, sym, ap, ◌∙◌, subst, arith}
use Rattle.std.specs.Prelude.{slice_index}
use Rattle.std.proofs.lemmas.List.{map-append}
use Rattle.vlsi_base.specs.declared.name.Name.{Name}
use Rattle.bool_expr.specs.Expression.{Expression, variable, inverse, pair, choice, variables, IsOver}
use Rattle.machine_core.specs.Named.{is_same_name}
use Rattle.machine_core.specs.Order.{In, here, AllDifferent}
use Rattle.machine_core.proofs.Names.{same_name-true, same_name-itself, same_name-false}
use Rattle.machine_core.proofs.Values.{In-split, In-left, In-right}
use Rattle.source_checks.specs.Formula.{Formula, fixed, named, opposite, joined, chosen, formula_names, place, numbered}
use Rattle.bool_expr.specs.Renumbering.{renumbered}
use Rattle.vlsi_model.proofs.Members.{In-cases}
use Rattle.vlsi_model.proofs.Formulas.{Holds}
use Rattle.vlsi_model.proofs.Sorting.{In-at}

-- the place of a name

pub place_within : (names : List Name) (n : Name) → In n names → place names n < length names
place_within (m ∷ names) n i = by (is_same_name m n) refl (place_within names n) (In-cases n m names i) where
  by : (b : Bool) → is_same_name m n ≡ b → (In n names → place names n < length names) → (m ≡ n) ⊎ In n names → cond b 0 (place names n + 1) < length (m ∷ names)
  by true is rest i = omega arith
  by false is rest (inl same) = let h : true ≡ false = sym (same_name-itself m) ∙ ap (is_same_name m) same ∙ is in absurd cc
  by false is rest (inr j) = omega (arith, rest j)
place_within [] n i = elim i [ ]

pub place_at : (names : List Name) (n d : Name) → place names n < length names → get_or names (place names n) d ≡ n
place_at [] n d h = absurd (omega arith)
place_at (m ∷ names) n d h = by (is_same_name m n) refl h (place_at names n d) where
  by : (b : Bool) → is_same_name m n ≡ b → cond b 0 (place names n + 1) < length (m ∷ names) → (place names n < length names → get_or names (place names n) d ≡ n) → get_or (m ∷ names) (cond b 0 (place names n + 1)) d ≡ n
  by true is h rest = same_name-true m n is
  by false is h rest =
      let next : suc (place names n) ≡ place names n + 1 = omega arith in
      subst (λ k. get_or (m ∷ names) k d ≡ n) next (rest (omega arith))

pub place_In : (names : List Name) (n : Name) → place names n < length names → In n names
place_In names n h = subst (λ (m : Name). In m names) (place_at names n n h) (In-at names (place names n) n h)

-- names at one place are one
pub place_same : (names : List Name) (a b : Name) → In a names → place names a ≡ place names b → a ≡ b
place_same names a b i e =
    let within = place_within names a i in
    sym (place_at names a a within) ∙ ap (λ k. get_or names k a) e ∙ place_at names b a (omega (arith, within, e))

pub place_of_at : (names : List Name) (k : ℕ) (d : Name) → AllDifferent names → k < length names → place names (get_or names k d) ≡ k
place_of_at [] k d h within = absurd (omega arith)
place_of_at (m ∷ names) zero d h within = ap (λ b. cond b 0 (place names m + 1)) (same_name-itself m)
place_of_at (m ∷ names) (suc k) d h within =
    let apart : is_same_name m (get_or names k d) ≡ false = same_name-false m (get_or names k d) (λ e. h.0 (subst (λ (x : Name). In x names) (sym e) (In-at names k d (omega arith)))) in
    let rest : place names (get_or names k d) ≡ k = place_of_at names k d h.1 (omega arith) in
    ap (λ b. cond b 0 (place names (get_or names k d) + 1)) apart ∙ omega arith

-- a name among the first ones has one of the first places
pub place_front : (front back : List Name) (n : Name) → In n front → place (front ++ back) n < length front
place_front (m ∷ front) back n i = by (is_same_name m n) refl (place_front front back n) (In-cases n m front i) where
  by : (b : Bool) → is_same_name m n ≡ b → (In n front → place (front ++ back) n < length front) → (m ≡ n) ⊎ In n front → cond b 0 (place (front ++ back) n + 1) < length (m ∷ front)
  by true is rest i = omega arith
  by false is rest (inl same) = let h : true ≡ false = sym (same_name-itself m) ∙ ap (is_same_name m) same ∙ is in absurd cc
  by false is rest (inr j) = omega (arith, rest j)
place_front [] back n i = elim i [ ]

-- what holds of all names of a formula

pub holds_In : (P : Name → Type 0) (f : Formula) → Holds P f → (n : Name) → In n (formula_names f) → P n
holds_In P (fixed b) h n i = elim i [ ]
holds_In P (named m) h n i = elim (In-cases n m [] i) [ inl same ↦ subst P same h | inr j ↦ absurd (elim j [ ]) ]
holds_In P (opposite e) h n i = holds_In P e h n i
holds_In P (joined g a b) h n i = elim (In-split n (formula_names a) (formula_names b) i) [ inl x ↦ holds_In P a h.0 n x | inr y ↦ holds_In P b h.1 n y ]
holds_In P (chosen c a b) h n i = elim (In-split n (formula_names c) (formula_names a ++ formula_names b) i) [
  | inl x ↦ holds_In P c h.0 n x
  | inr y ↦ elim (In-split n (formula_names a) (formula_names b) y) [ inl x ↦ holds_In P a h.1 n x | inr z ↦ holds_In P b h.2 n z ]
]

pub In_holds : (P : Name → Type 0) (f : Formula) → ((n : Name) → In n (formula_names f) → P n) → Holds P f
In_holds P (fixed b) h = tt
In_holds P (named m) h = h m here
In_holds P (opposite e) h = In_holds P e h
In_holds P (joined g a b) h = (In_holds P a (λ n i. h n (In-left n (formula_names a) (formula_names b) i)), In_holds P b (λ n i. h n (In-right n (formula_names a) (formula_names b) i)))
In_holds P (chosen c a b) h = (
  In_holds P c (λ n i. h n (In-left n (formula_names c) (formula_names a ++ formula_names b) i)),
  In_holds P a (λ n i. h n (In-right n (formula_names c) (formula_names a ++ formula_names b) (In-left n (formula_names a) (formula_names b) i))),
  In_holds P b (λ n i. h n (In-right n (formula_names c) (formula_names a ++ formula_names b) (In-right n (formula_names a) (formula_names b) i))),
)

-- the variables of a formula over numbers are the numbers of its names
pub numbered_variables : (vars : List Name) (f : Formula) → variables (numbered vars f) ≡ map (place vars) (formula_names f)
numbered_variables vars (fixed b) = refl
numbered_variables vars (named n) = refl
numbered_variables vars (opposite e) = numbered_variables vars e
numbered_variables vars (joined g a b) =
    ap (λ (ks : List ℕ). ks ++ variables (numbered vars b)) (numbered_variables vars a) ∙ ap (λ (ks : List ℕ). map (place vars) (formula_names a) ++ ks) (numbered_variables vars b)
    ∙ sym (map-append (place vars) (formula_names a) (formula_names b))
numbered_variables vars (chosen c a b) =
    let rest : variables (numbered vars a) ++ variables (numbered vars b) ≡ map (place vars) (formula_names a ++ formula_names b) =
    ap (λ (ks : List ℕ). ks ++ variables (numbered vars b)) (numbered_variables vars a) ∙ ap (λ (ks : List ℕ). map (place vars) (formula_names a) ++ ks) (numbered_variables vars b)
    ∙ sym (map-append (place vars) (formula_names a) (formula_names b)) in
    ap (λ (ks : List ℕ). ks ++ (variables (numbered vars a) ++ variables (numbered vars b))) (numbered_variables vars c) ∙ ap (λ (ks : List ℕ). map (place vars) (formula_names c) ++ ks) rest
    ∙ sym (map-append (place vars) (formula_names c) (formula_names a ++ formula_names b))

pub over_below : (vars : List Name) (k : ℕ) (f : Formula) → Holds (λ n. place vars n < k) f → IsOver (numbered vars f) k
over_below vars k (fixed b) h = tt
over_below vars k (named n) h = h
over_below vars k (opposite e) h = over_below vars k e h
over_below vars k (joined g a b) h = (over_below vars k a h.0, over_below vars k b h.1)
over_below vars k (chosen c a b) h = (over_below vars k c h.0, (over_below vars k a h.1, over_below vars k b h.2))

-- from the numbers of names among all bits to those among others
pub renumber : (all vars : List Name) (numbers : List ℕ) (f : Formula) → Holds (λ n. slice_index numbers (place all n) ≡ place vars n) f → renumbered numbers (numbered all f) ≡ numbered vars f
renumber all vars numbers (fixed b) h = refl
renumber all vars numbers (named n) h = ap variable h
renumber all vars numbers (opposite e) h = ap inverse (renumber all vars numbers e h)
renumber all vars numbers (joined g a b) h = ap (λ (x : Expression). pair g x (renumbered numbers (numbered all b))) (renumber all vars numbers a h.0) ∙ ap (pair g (numbered vars a)) (renumber all vars numbers b h.1)
renumber all vars numbers (chosen c a b) h =
    ap (λ (x : Expression). choice x (renumbered numbers (numbered all a)) (renumbered numbers (numbered all b))) (renumber all vars numbers c h.0)
    ∙ ap (λ (x : Expression). choice (numbered vars c) x (renumbered numbers (numbered all b))) (renumber all vars numbers a h.1)
    ∙ ap (choice (numbered vars c) (numbered vars a)) (renumber all vars numbers b h.2)
