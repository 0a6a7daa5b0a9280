-- Rows that are filled from sorted instances hold each number once.
use Rattle.std.proofs.Common.{◌≡◌, ℕ, suc, ◌+◌, ◌<◌, ◌≤◌, Bool, true, false, not, cond, nat_eq, List, [], ◌∷◌, ◌++◌, map, filter, length, flat_map, refl, sym, ap, subst, ◌∙◌, arith, IsPermutation}
use Rattle.std.specs.List.{All}
use Rattle.std.specs.List.Sorted.{IsNonDecreasingBy}
use Rattle.std.specs.Global.{Vec}
use Rattle.std.proofs.lemmas.Bool.{cond-false}
use Rattle.std.proofs.lemmas.Bool.Decides.{nat_tests}
use Rattle.std.proofs.lemmas.List.{length-map, map-append}
use Rattle.std.proofs.lemmas.List.Elements.{All-head, All-tail}
use Rattle.std.proofs.lemmas.List.Sorted.{IsPermutation-refl, IsPermutation-sym, IsPermutation-trans, IsPermutation-map, IsPermutation-append, IsPermutation-filter_both, All-permutation}
use Rattle.sym_geom.specs.declared.item.Instance.{Instance}
use Rattle.row_meaning.specs.Rows.{row_at}
use Rattle.row_meaning.specs.First.{numbers}
use Rattle.row_fill.proofs.Filling.{items, at_map}
use Rattle.ocp_figure.specs.declared.stands.Stand.{Stand}
use Rattle.ocp_figure.specs.Stands.{stands_from, numbers_in, AreFilled, AreReadRows}

-- ---- rows in memory

filled_row : (stands : List Stand) (rows : List (Vec ℕ)) → AreFilled stands rows → (r : ℕ) → r < length rows → row_at (map items rows) r ≡ numbers_in r stands
filled_row stands [] are r low = absurd (omega arith)
filled_row stands (v ∷ rest) are r low = at_map (v ∷ rest) r v low ∙ are.each r v low

pub read : (count : ℕ) (stands sorted : List Stand) (rows : List (Vec ℕ)) → IsPermutation stands sorted → IsNonDecreasingBy (λ s. s.x) sorted → length rows ≡ count
    → AreFilled sorted rows → AreReadRows count stands (map items rows)
read count stands sorted rows same rising many are = record {
  sorted = sorted;
  same = same;
  rising = rising;
  many = length-map rows items ∙ many;
  each = λ r low. filled_row sorted rows are r (omega arith);
}

-- ---- each number once

abbrev number_of : Stand → ℕ
number_of s = s.number

abbrev pub stays : ℕ → Stand → Bool
stays r s = nat_eq s.row r

abbrev leaves : ℕ → Stand → Bool
leaves r s = not (nat_eq s.row r)

-- in the rows from one up to another
abbrev AreWithin : ℕ → ℕ → List Stand → Type 0
AreWithin low high [] = Unit {0}
AreWithin low high (s ∷ rest) = (low ≤ s.row) × (s.row < high) × AreWithin low high rest

all_within : (high : ℕ) (ss : List Stand) → All (λ s. s.row < high) ss → AreWithin 0 high ss
all_within high [] h = tt
all_within high (s ∷ rest) h = (omega arith, All-head (λ t. t.row < high) s rest h, all_within high rest (All-tail (λ t. t.row < high) s rest h))

is_more : (a b : ℕ) → b ≤ a → nat_eq a b ≡ false → b + 1 ≤ a
is_more a b l e = grind (arith, nat_tests)

is_other : (a b c : ℕ) → nat_eq a b ≡ true → b < c → nat_eq a c ≡ false
is_other a b c e l = grind (arith, nat_tests)

rest_within : (low high : ℕ) (ss : List Stand) → AreWithin low high ss → AreWithin (low + 1) high (filter (leaves low) ss)
rest_within low high [] h = tt
rest_within low high (s ∷ rest) h = by (nat_eq s.row low) refl (rest_within low high rest h.2) where
  by : (b : Bool) → nat_eq s.row low ≡ b → AreWithin (low + 1) high (filter (leaves low) rest)
      → AreWithin (low + 1) high (cond (not b) (s ∷ filter (leaves low) rest) (filter (leaves low) rest))
  by true e next = next
  by false e next = (is_more s.row low h.0 e, h.1, next)

kept : (low r : ℕ) (ss : List Stand) → low < r → filter (stays r) (filter (leaves low) ss) ≡ filter (stays r) ss
kept low r [] l = refl
kept low r (s ∷ rest) l = by (nat_eq s.row low) refl (kept low r rest l) where
  by : (b : Bool) → nat_eq s.row low ≡ b → filter (stays r) (filter (leaves low) rest) ≡ filter (stays r) rest
      → filter (stays r) (cond (not b) (s ∷ filter (leaves low) rest) (filter (leaves low) rest)) ≡ cond (nat_eq s.row r) (s ∷ filter (stays r) rest) (filter (stays r) rest)
  by true e next = next ∙ sym (cond-false (nat_eq s.row r) (s ∷ filter (stays r) rest) (filter (stays r) rest) (is_other s.row low r e l))
  by false e next = ap (λ (xs : List Stand). cond (nat_eq s.row r) (s ∷ xs) xs) next

flat_is : (low : ℕ) (rows : List (List ℕ)) (ss : List Stand) → AreWithin low (low + length rows) ss → ((r : ℕ) → r < length rows → row_at rows r ≡ numbers_in (low + r) ss)
    → IsPermutation (flat_map (λ row. row) rows) (map number_of ss)
flat_is low [] [] h each = IsPermutation-refl []
flat_is low [] (s ∷ ss) h each = let a = h.0 in let b = h.1 in absurd (omega arith)
flat_is low (row ∷ rows) ss h each =
    let gone = filter (leaves low) ss in
    let here = filter (stays low) ss in
    let next = flat_is (low + 1) rows gone
    (subst (λ (high : ℕ). AreWithin (low + 1) high gone) (let e : low + suc (length rows) ≡ (low + 1) + length rows = omega arith in e) (rest_within low (low + suc (length rows)) ss h))
    (λ r l. each (suc r) (omega arith) ∙ ap (λ (m : ℕ). numbers_in m ss) (let e : low + suc r ≡ (low + 1) + r = omega arith in e)
    ∙ sym (ap (map number_of) (kept low ((low + 1) + r) ss (omega arith)))) in
    let first : row ≡ numbers_in low ss = each 0 (omega arith) ∙ ap (λ (m : ℕ). numbers_in m ss) (let e : low + 0 ≡ low = omega arith in e) in
    let parts : IsPermutation ss (here ++ gone) = IsPermutation-filter_both (stays low) (leaves low) (λ x. refl) ss in
    let joined : IsPermutation (map number_of ss) (map number_of here ++ map number_of gone) =
    subst (IsPermutation (map number_of ss)) (map-append number_of here gone) (IsPermutation-map number_of ss (here ++ gone) parts) in
    IsPermutation-trans _ _ _
    (subst (λ (xs : List ℕ). IsPermutation (row ++ flat_map (λ one. one) rows) (xs ++ map number_of gone)) first
    (IsPermutation-append row row (flat_map (λ one. one) rows) (map number_of gone) (IsPermutation-refl row) next))
    (IsPermutation-sym _ _ joined)

pub numbers_from : (rows k : ℕ) (is : List Instance) → map number_of (stands_from rows k is) ≡ numbers k (length is)
numbers_from rows k [] = refl
numbers_from rows k (i ∷ rest) = ap (λ (ns : List ℕ). k ∷ ns) (numbers_from rows (suc k) rest)

-- rows that are read of instances hold each once
pub once_read : (count : ℕ) (is : List Instance) (rows : List (List ℕ)) → AreReadRows count (stands_from count 0 is) rows → All (λ s. s.row < count) (stands_from count 0 is)
    → IsPermutation (flat_map (λ row. row) rows) (numbers 0 (length is))
once_read count is rows are inside =
    let many = are.many in
    let stands = stands_from count 0 is in
    let low : AreWithin 0 (0 + length rows) are.sorted =
    subst (λ (high : ℕ). AreWithin 0 high are.sorted) (let e : count ≡ 0 + length rows = omega arith in e)
    (all_within count are.sorted (All-permutation (λ s. s.row < count) stands are.sorted are.same inside)) in
    let flat = flat_is 0 rows are.sorted low (λ r l. are.each r (omega arith) ∙ ap (λ (m : ℕ). numbers_in m are.sorted) (let e : r ≡ 0 + r = omega arith in e)) in
    IsPermutation-trans _ _ _ flat
    (subst (IsPermutation (map number_of are.sorted)) (numbers_from count 0 is) (IsPermutation-map number_of are.sorted stands (IsPermutation-sym stands are.sorted are.same)))
