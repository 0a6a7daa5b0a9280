-- Places, each in its own share, stay different in any order.
use Rattle.std.proofs.Common.{◌≡◌, ℕ, ◌+◌, ◌*◌, ◌/◌, ◌<◌, ◌≤◌, max, ◌⊎◌, inl, inr, List, [], ◌∷◌, ◌++◌, length, get_or, false, eqb, All, IsPermutation, refl, sym, ap, subst, ◌∙◌, arith}
use Rattle.std.specs.List.{AllByRecursion, IsDistinct}
use Rattle.std.proofs.Math.Nat.{mul_comm}
use Rattle.std.proofs.lemmas.Bool.{cases_eq, cases_lt, eq-eqb, ne_eqb, false≢true}
use Rattle.std.proofs.lemmas.List.{length_push, get_or_push, get_or_append_left, get_or_default}
use Rattle.std.proofs.lemmas.List.Sorted.{length_permutation, All-permutation}
use Rattle.std.proofs.lemmas.Map.Keys.{IsDistinct-head, IsDistinct-tail, IsDistinct-from_apart, IsDistinct-IsPermutation}
use Rattle.std.proofs.lemmas.Nat.{row_fits, div-add-mod'}
use Rattle.vlsi_base.specs.Member.{In, here, there, AllDifferent}
use Rattle.maze_probe.specs.Spots.{AreSpread, AreApart}

pub spread_none : (share : ℕ) → AreSpread share 0 []
spread_none share = record { many = refl; from = λ k h. absurd (let no : ⊥ = omega arith in no); to = λ k h. absurd (let no : ⊥ = omega arith in no) }

-- one more place, in the next share
module _ (share n : ℕ) (places : List ℕ) (place : ℕ) (s : AreSpread share n places) where
  either : (k : ℕ) → k < n + 1 → ((k < n) × (get_or (places ++ place ∷ []) k 0 ≡ get_or places k 0)) ⊎ ((k ≡ n) × (get_or (places ++ place ∷ []) k 0 ≡ place))
  either k h =
      let many = s.many in
      elim (cases_lt k n) [
        | inl lt ↦ inl (lt, get_or_append_left places (place ∷ []) 0 k (omega arith))
        | inr le ↦ (let e : k ≡ n = omega arith in inr (e, get_or_push places place 0 k (many ∙ sym e)))
      ]

  pub spread_more : n * share ≤ place → place < n * share + share → AreSpread share (n + 1) (places ++ place ∷ [])
  spread_more low high = record {
    many = length_push places place ∙ ap (λ k. k + 1) s.many;
    from = λ k h. elim (either k h) [
      | inl t ↦ (let e = t.1 in let f = s.from k t.0 in omega (arith, e, f))
      | inr t ↦ (let e = t.1 in let f = subst (λ (j : ℕ). j * share ≤ place) (sym t.0) low in omega (arith, e, f))
    ];
    to = λ k h. elim (either k h) [
      | inl t ↦ (let e = t.1 in let f = s.to k t.0 in omega (arith, e, f))
      | inr t ↦ (let e = t.1 in let f = subst (λ (j : ℕ). place < j * share + share) (sym t.0) high in omega (arith, e, f))
    ];
  }

module _ (share n : ℕ) (places : List ℕ) (s : AreSpread share n places) where
  rising_apart : (i j d : ℕ) → i < j → j < length places → eqb (get_or places i d) (get_or places j d) ≡ false
  rising_apart i j d low high =
      let many = s.many in
      let first = s.to i (omega arith) in
      let second = s.from j (omega arith) in
      let between : i * share + share ≤ j * share = row_fits i share j share low (omega arith) in
      let a = get_or_default places i d 0 (omega arith) in
      let b = get_or_default places j d 0 high in
      ne_eqb (get_or places i d) (get_or places j d) (λ e. let no : ⊥ = omega (arith, first, second, between, a, b, e) in no)

  below_all : (limit : ℕ) → n * share ≤ limit → All (λ place. place < limit) places
  below_all limit h k d low =
      let many = s.many in
      let own = s.to k (omega arith) in
      let top : k * share + share ≤ n * share = row_fits k share n share (omega arith) (omega arith) in
      let a = get_or_default places k d 0 low in
      omega (arith, own, top, a)

flips : (x y : ℕ) → eqb x y ≡ eqb y x
flips x y = elim (cases_eq x y) [
  | inl e ↦ eq-eqb x y e ∙ sym (eq-eqb y x (sym e))
  | inr ne ↦ ne_eqb x y ne ∙ sym (ne_eqb y x (λ e. ne (sym e)))
]

out : (x z : ℕ) (xs : List ℕ) → x ≡ z → AllByRecursion (λ y. eqb x y ≡ false) xs → In z xs → ⊥
out x z (y ∷ xs) e a here = false≢true (sym a.0 ∙ eq-eqb x y e)
out x z (y ∷ xs) e a (there i) = out x z xs e a.1 i
out x z [] e a i = elim i [ ]

different_from_distinct : (xs : List ℕ) → IsDistinct eqb xs → AllDifferent xs
different_from_distinct [] h = tt
different_from_distinct (x ∷ xs) h = (λ i. out x x xs refl (IsDistinct-head eqb x xs h) i, different_from_distinct xs (IsDistinct-tail eqb x xs h))

shares_fit : (limit count : ℕ) → count * (limit / max count 1) ≤ limit
shares_fit limit count = elim (cases_eq count 0) [
  | inl e ↦ subst (λ (n : ℕ). n * (limit / max n 1) ≤ limit) (sym e) (let z : 0 * (limit / max 0 1) ≡ 0 = grind arith in omega (arith, z))
  | inr ne ↦ (
      let same : max count 1 ≡ count = omega (arith, ne) in
      let turned : limit / max count 1 * max count 1 ≡ count * (limit / max count 1) = mul_comm (limit / max count 1) (max count 1) ∙ ap (λ (m : ℕ). m * (limit / max count 1)) same in
      let whole = div-add-mod' limit (max count 1) in
      omega (arith, turned, whole)
      )
]

pub apart_from_spread : (limit count : ℕ) (places shuffled : List ℕ) → AreSpread (limit / max count 1) count places → IsPermutation places shuffled → AreApart limit count shuffled
apart_from_spread limit count places shuffled s p = record {
  many = length_permutation places shuffled p ∙ s.many;
  below = All-permutation (λ place. place < limit) places shuffled p (below_all (limit / max count 1) count places s limit (shares_fit limit count));
  different = different_from_distinct shuffled (IsDistinct-IsPermutation eqb flips places shuffled p (IsDistinct-from_apart eqb places (rising_apart (limit / max count 1) count places s)));
}
