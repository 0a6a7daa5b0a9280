-- Names and numbers where one is left out, and expressions over numbers that are so changed.
use Rattle.std.proofs.Common.{◌≡◌, inl, inr, ℕ, zero, suc, ◌+◌, ◌<◌, ◌≤◌, Bool, true, false, not, List, [], ◌∷◌, ◌++◌, length, map, filter, refl, sym, ap, ◌∙◌, subst, arith, if◌then◌else◌}
use Rattle.std.specs.Prelude.{nat_lt, slice_index}
use Rattle.std.specs.List.{slice_index_or}
use Rattle.std.proofs.lemmas.Bool.{lt-ltb, le-ltb, cases_lt, cond-true, cond-false}
use Rattle.vlsi_base.specs.declared.name.Name.{Name}
use Rattle.vlsi_base.specs.Member.{In, here, there, AllDifferent}
use Rattle.vlsi_base.specs.Range.{rising}
use Rattle.bool_expr.specs.Expression.{Expression, constant, variable, inverse, pair, choice, gate_value, bit, val, IsOver}
use Rattle.bool_expr.specs.Renumbering.{renumbered}
use Rattle.machine_core.specs.Named.{is_same_name, value_at, values_at}
use Rattle.machine_core.proofs.Names.{same_name-itself, same_name-true, same_name-false}
use Rattle.proof_joint.specs.Clock.{name_place}
use Rattle.proof_joint.proofs.Clocks.{number}

-- ---- values by name

later : (x n : Name) (names : List Name) → is_same_name x n ≡ false → In n (x ∷ names) → In n names
later x n names e here = absurd (let t : is_same_name x x ≡ true = same_name-itself x in cc)
later x n names e (there h) = h

-- what is read by a name of the list is what stands beside it
pub read_again : (f : Name → Bool) (names : List Name) (n : Name) → In n names → value_at names (map f names) n ≡ f n
read_again f [] n h = elim h [ ]
read_again f (x ∷ names) n h = by (is_same_name x n) refl (λ e. read_again f names n (later x n names e h)) where
  by : (b : Bool) → is_same_name x n ≡ b → (is_same_name x n ≡ false → value_at names (map f names) n ≡ f n)
      → (if b then f x else value_at names (map f names) n) ≡ f n
  by true e rest = ap f (same_name-true x n e)
  by false e rest = rest e

pub all_again : (f : Name → Bool) (names asked : List Name) → ((n : Name) → In n asked → In n names) → values_at names (map f names) asked ≡ map f asked
all_again f names [] inside = refl
all_again f names (n ∷ asked) inside = λ j. read_again f names n (inside n here) j ∷ all_again f names asked (λ k h. inside k (there h)) j

pub bit_of : (f : Name → Bool) (names : List Name) (k : ℕ) (d : Name) → k < length names → bit (map f names) k ≡ f (slice_index_or names k d)
bit_of f [] k d h = absurd (omega (arith, h))
bit_of f (x ∷ names) zero d h = refl
bit_of f (x ∷ names) (suc k) d h = bit_of f names k d (omega (arith, h))

-- ---- numbers

pub numbers_at : (place a n j : ℕ) → j < n → slice_index (map (number place) (rising a n)) j ≡ number place (a + j)
numbers_at place a zero j h = absurd (omega (arith, h))
numbers_at place a (suc n) zero h = let e : a ≡ a + 0 = omega arith in ap (number place) e
numbers_at place a (suc n) (suc j) h =
    let e : a + 1 + j ≡ a + suc j = omega arith in
    numbers_at place (a + 1) n j (omega (arith, h)) ∙ ap (number place) e

number_below : (place k : ℕ) → k < place → number place k ≡ k
number_below place k low = cond-true (nat_lt k place) k (k + 1) (lt-ltb k place low)

number_above : (place k : ℕ) → place ≤ k → number place k ≡ k + 1
number_above place k high = cond-false (nat_lt k place) k (k + 1) (le-ltb k place high)

number_later : (place k : ℕ) → number (suc place) (suc k) ≡ suc (number place k)
number_later place k = elim (cases_lt k place) [
  | inl low ↦ number_below (suc place) (suc k) (omega (arith, low)) ∙ sym (ap suc (number_below place k low))
  | inr high ↦
      let e : suc k + 1 ≡ suc (k + 1) = omega arith in
      number_above (suc place) (suc k) (omega (arith, high)) ∙ e ∙ sym (ap suc (number_above place k high))
]

-- ---- the names without one of them

abbrev pub without : Name → List Name → List Name
without c names = filter (λ n. not (is_same_name c n)) names

none_out : (c : Name) (names : List Name) → (In c names → ⊥) → without c names ≡ names
none_out c [] apart = refl
none_out c (x ∷ names) apart =
    let other : is_same_name c x ≡ false = same_name-false c x (λ e. apart (subst (λ (y : Name). In c (y ∷ names)) e here)) in
    ap (λ (b : Bool). if not b then x ∷ without c names else without c names) other ∙ ap (λ (l : List Name). x ∷ l) (none_out c names (λ h. apart (there h)))

-- name k of the others is name number k of all
pub left_out : (c : Name) (xs ys : List Name) (k : ℕ) (d : Name) → AllDifferent xs → In c xs
    → slice_index_or (xs ++ ys) (number (name_place c xs) k) d ≡ slice_index_or (without c xs ++ ys) k d
left_out c [] ys k d different h = elim h [ ]
left_out c (x ∷ xs) ys k d different h = by (is_same_name x c) refl (λ e i. left_out c xs ys i d different.1 (later x c xs e h)) where
  first : is_same_name x c ≡ true → slice_index_or ((x ∷ xs) ++ ys) (number 0 k) d ≡ slice_index_or (without c (x ∷ xs) ++ ys) k d
  first e =
      let same : x ≡ c = same_name-true x c e in
      let gone : without c (x ∷ xs) ≡ without c xs =
      ap (λ (b : Bool). if not b then x ∷ without c xs else without c xs) (ap (is_same_name c) same ∙ same_name-itself c) in
      let next_number : number 0 k ≡ suc k = (let e : k + 1 ≡ suc k = omega arith in number_above 0 k (omega arith) ∙ e) in
      let all : without c xs ≡ xs = none_out c xs (subst (λ (y : Name). In y xs → ⊥) same different.0) in
      ap (λ (j : ℕ). slice_index_or ((x ∷ xs) ++ ys) j d) next_number ∙ ap (λ (l : List Name). slice_index_or (l ++ ys) k d) (sym (gone ∙ all))

  kept : is_same_name x c ≡ false → without c (x ∷ xs) ≡ x ∷ without c xs
  kept e =
      let apart : is_same_name c x ≡ false =
      same_name-false c x (λ same. (let t : is_same_name x c ≡ true = subst (λ (y : Name). is_same_name y c ≡ true) same (same_name-itself c) in cc (t, e))) in
      ap (λ (b : Bool). if not b then x ∷ without c xs else without c xs) apart

  next : (j : ℕ) → (slice_index_or (xs ++ ys) (number (name_place c xs) j) d ≡ slice_index_or (without c xs ++ ys) j d)
      → slice_index_or ((x ∷ xs) ++ ys) (number (suc (name_place c xs)) (suc j)) d ≡ slice_index_or ((x ∷ without c xs) ++ ys) (suc j) d
  next j rest = ap (λ (i : ℕ). slice_index_or ((x ∷ xs) ++ ys) i d) (number_later (name_place c xs) j) ∙ rest

  second : (j : ℕ) → ((i : ℕ) → slice_index_or (xs ++ ys) (number (name_place c xs) i) d ≡ slice_index_or (without c xs ++ ys) i d)
      → slice_index_or ((x ∷ xs) ++ ys) (number (suc (name_place c xs)) j) d ≡ slice_index_or ((x ∷ without c xs) ++ ys) j d
  second zero rest = ap (λ (i : ℕ). slice_index_or ((x ∷ xs) ++ ys) i d) (number_below (suc (name_place c xs)) zero (omega arith))
  second (suc j) rest = next j (rest j)

  by : (b : Bool) → is_same_name x c ≡ b
      → (is_same_name x c ≡ false → (i : ℕ) → slice_index_or (xs ++ ys) (number (name_place c xs) i) d ≡ slice_index_or (without c xs ++ ys) i d)
      → slice_index_or ((x ∷ xs) ++ ys) (number (if b then 0 else suc (name_place c xs)) k) d ≡ slice_index_or (without c (x ∷ xs) ++ ys) k d
  by true e rest = first e
  by false e rest = second k (rest e) ∙ ap (λ (l : List Name). slice_index_or (l ++ ys) k d) (sym (kept e))

-- ---- expressions

-- an expression has the value that it has over other numbers, where the bits at these are the same
pub val_over : (e : Expression) (n : ℕ) (numbers : List ℕ) (v w : List Bool) → IsOver e n → ((k : ℕ) → k < n → bit v (slice_index numbers k) ≡ bit w k)
    → val (renumbered numbers e) v ≡ val e w
val_over (constant b) n numbers v w h same = refl
val_over (variable k) n numbers v w h same = same k h
val_over (inverse e) n numbers v w h same = ap not (val_over e n numbers v w h same)
val_over (pair g a b) n numbers v w h same = λ j. gate_value g (val_over a n numbers v w h.0 same j) (val_over b n numbers v w h.1 same j)
val_over (choice c a b) n numbers v w h same =
    λ j. if val_over c n numbers v w h.0 same j then val_over a n numbers v w h.1.0 same j else val_over b n numbers v w h.1.1 same j
