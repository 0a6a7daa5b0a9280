-- Nets by half perimeter, then by number.
use Rattle.std.proofs.Common.{◌≡◌, ◌≢◌, ℕ, zero, suc, ◌+◌, ◌<◌, ◌⊎◌, inl, inr, ⊎_elim, Bool, true, false, List, [], ◌∷◌, ◌++◌, map, length, get_or, Some, refl, sym, ap, ◌∙◌, subst, arith, nat_eq}
use Rattle.std.specs.Prelude.{All, Contains, IsTrue, slice_get, slice_index_or}
use Rattle.std.specs.List.{IsDistinct}
use Rattle.std.specs.List.Sorted.{IsPermutation, IsSorted}
use Rattle.std.specs.Cmp.{IsTotalOrder}
use Rattle.std.specs.Ordering.{MatchOrdering, nat_cmp, ordering_then, is_lt}
use Rattle.std.specs.declared.cmp.Ordering.{Ordering}
use Rattle.std.specs.declared.cmp.Ordering.TheVariants.{Less, Equal, Greater}
use Rattle.std.proofs.lemmas.Bool.{eqb-true, eq-eqb, ne_eqb}
use Rattle.std.proofs.lemmas.Bool.Decides.{nat_tests}
use Rattle.std.proofs.lemmas.Cmp.{ranked, then_total, on_total, nat_cmp_total}
use Rattle.std.proofs.lemmas.List.{length-append, length-map, map-append, get_or_append_left, get_or_at}
use Rattle.std.proofs.lemmas.List.Elements.{All-push, All-get_or}
use Rattle.std.proofs.lemmas.List.Sorted.{All-permutation, Contains-permutation, IsPermutation-map, IsPermutation-sym, sorted_far, ranks_by}
use Rattle.std.proofs.lemmas.Map.Keys.{IsDistinct-from_apart, apart_from_distinct, IsDistinct-IsPermutation}
use Rattle.vlsi_base.specs.Member.{In}
use Rattle.grid_core.specs.Trees.{IsNetOrder, net_precedes}
use Rattle.grid_core.proofs.Lists.{In_either}
use Rattle.grid_core.proofs.Owners.{first_or}
use Rattle.maze_nets.specs.declared.points.NetPoints.{NetPoints}
use Rattle.maze_nets.specs.Nets.{points_of, nodes_of, half_box, half_perimeter}
use Rattle.maze_nets.proofs.Lists.{place_in}

abbrev pub net_of : ℕ × ℕ → ℕ
net_of r = r.1

abbrev pub counted : ℕ → List ℕ
counted zero = []
counted (suc n) = counted n ++ n ∷ []

-- the first so many nets, each with its half perimeter
pub record Ranked (nets : List NetPoints) (n : ℕ) (ranks : List (ℕ × ℕ)) : Type 0 where
  pub numbers : map net_of ranks ≡ counted n
  pub reaches : All (λ r. r.0 ≡ half_perimeter nets r.1) ranks

pub ranked_none : (nets : List NetPoints) → Ranked nets 0 []
ranked_none nets = record { numbers = refl; reaches = λ k d h. absurd (let no : ⊥ = omega arith in no) }

pub ranked_more : (nets : List NetPoints) (n : ℕ) (x : NetPoints) (reach : ℕ) (ranks : List (ℕ × ℕ)) → slice_get nets n ≡ Some x → reach ≡ half_box (points_of x)
    → Ranked nets n ranks → Ranked nets (n + 1) (ranks ++ (reach, n) ∷ [])
ranked_more nets n x reach ranks e is h = record {
  numbers = map-append net_of ranks ((reach, n) ∷ []) ∙ (ap (λ xs. xs ++ n ∷ []) h.numbers ∙ more n);
  reaches = All-push (λ r. r.0 ≡ half_perimeter nets r.1) ranks (reach, n) h.reaches (is ∙ ap (λ o. half_box (nodes_of points_of o)) (sym e));
}
  where
    more : (n : ℕ) → counted n ++ n ∷ [] ≡ counted (n + 1)
    more n = let e : n + 1 ≡ suc n = omega arith in rw e refl

-- ---- the numbers below one
length_counted : (n : ℕ) → length (counted n) ≡ n
length_counted zero = refl
length_counted (suc n) = let a = length-append (counted n) (n ∷ []) in let b = length_counted n in omega arith

get_counted : (n i d : ℕ) → i < n → get_or (counted n) i d ≡ i
get_counted zero i d h = absurd (let no : ⊥ = omega arith in no)
get_counted (suc n) i d h = by (λ lt. get_counted n i d lt) (nat_eq i n) refl
  where
    by : (i < n → get_or (counted n) i d ≡ i) → (b : Bool) → nat_eq i n ≡ b → get_or (counted n ++ n ∷ []) i d ≡ i
    by f true e = let same : i ≡ n = eqb-true i n e in get_or_at (counted n) n [] d i (length_counted n ∙ sym same) ∙ sym same
    by f false e =
        let lt : i < n = grind (arith, nat_tests) in
        let l = length_counted n in
        get_or_append_left (counted n) (n ∷ []) d i (omega arith) ∙ f lt

in_counted : (n k : ℕ) → k < n → In k (counted n)
in_counted n k h = let l = length_counted n in subst (λ (x : ℕ). In x (counted n)) (get_counted n k 0 h) (place_in (counted n) k 0 (omega arith))

below_counted : (n k : ℕ) → In k (counted n) → k < n
below_counted zero k i = elim i [ ]
below_counted (suc n) k i =
    ⊎_elim (λ j. let h = below_counted n k j in omega arith)
    (λ j. ⊎_elim (λ e. let same : k ≡ n = e in omega arith) (λ x. elim x [ ]) (first_or k n [] j)) (In_either (counted n) (n ∷ []) k i)

flips : (x y : ℕ) → nat_eq x y ≡ nat_eq y x
flips x y = by (nat_eq x y) (nat_eq y x) refl refl
  where
    by : (a b : Bool) → nat_eq x y ≡ a → nat_eq y x ≡ b → a ≡ b
    by true true e f = refl
    by false false e f = refl
    by true false e f = sym (eq-eqb y x (sym (eqb-true x y e))) ∙ f
    by false true e f = sym e ∙ eq-eqb x y (sym (eqb-true y x f))

distinct_counted : (n : ℕ) → IsDistinct nat_eq (counted n)
distinct_counted n = IsDistinct-from_apart nat_eq (counted n) (λ i j d p q.
    let l = length_counted n in
    let a : get_or (counted n) i d ≡ i = get_counted n i d (omega arith) in
    let b : get_or (counted n) j d ≡ j = get_counted n j d (omega arith) in
    ne_eqb (get_or (counted n) i d) (get_or (counted n) j d) (λ e. let same : i ≡ j = sym a ∙ (e ∙ b) in let no : ⊥ = omega arith in no))

-- ---- members
contains_in : (xs : List ℕ) (x : ℕ) → Contains xs x → In x xs
contains_in xs x c = subst (λ (y : ℕ). In y xs) c.2 (place_in xs c.0 x c.1)

in_contains : (xs : List ℕ) (x : ℕ) → In x xs → Contains xs x
in_contains [] x i = elim i [ ]
in_contains (y ∷ xs) x i =
    ⊎_elim (λ e. (0, omega arith, sym e)) (λ j. let r = in_contains xs x j in (suc r.0, (let h = r.1 in omega arith), r.2)) (first_or x y xs i)

-- ---- the order
abbrev pub rank_cmp : ℕ × ℕ → ℕ × ℕ → Ordering
rank_cmp x y = ordering_then (nat_cmp x.0 y.0) (nat_cmp x.1 y.1)

rank_total : IsTotalOrder rank_cmp
rank_total = then_total (on_total (λ (r : ℕ × ℕ). r.0) nat_cmp_total) (on_total (λ (r : ℕ × ℕ). r.1) nat_cmp_total)

not_less : (a b c d : ℕ) (o1 o2 : Ordering) → MatchOrdering o1 (c < a) (c ≡ a) (a < c) → MatchOrdering o2 (d < b) (d ≡ b) (b < d) → is_lt (ordering_then o1 o2) ≡ false → b ≢ d
    → (a < c) ⊎ ((a ≡ c) × (b < d))
not_less a b c d Less o2 m1 m2 e ne = absurd (cc e)
not_less a b c d Equal Less m1 m2 e ne = absurd (cc e)
not_less a b c d Equal Equal m1 m2 e ne = absurd (ne (sym m2))
not_less a b c d Equal Greater m1 m2 e ne = inr (sym m1, m2)
not_less a b c d Greater o2 m1 m2 e ne = inl m1

precedes : (half : ℕ → ℕ) (j k : ℕ) → (half j < half k) ⊎ ((half j ≡ half k) × (j < k)) → IsTrue (net_precedes half j k)
precedes half j k (inl h) = grind (arith, nat_tests)
precedes half j k (inr h) = let a = h.0 in let b = h.1 in grind (arith, nat_tests)

get_map : (ranks : List (ℕ × ℕ)) (i d : ℕ) (e : ℕ × ℕ) → i < length ranks → slice_index_or (map net_of ranks) i d ≡ net_of (get_or ranks i e)
get_map [] i d e h = absurd (let no : ⊥ = omega arith in no)
get_map (r ∷ ranks) zero d e h = refl
get_map (r ∷ ranks) (suc i) d e h = get_map ranks i d e (omega arith)

pub order_is : (nets : List NetPoints) (n : ℕ) (ranks sorted : List (ℕ × ℕ)) → length nets ≡ n → Ranked nets n ranks → IsPermutation ranks sorted → IsSorted rank_cmp sorted
    → IsNetOrder (half_perimeter nets) (length nets) (map net_of sorted)
order_is nets n ranks sorted size h moved in_order =
    let nets_moved : IsPermutation (map net_of ranks) (map net_of sorted) = IsPermutation-map net_of ranks sorted moved in
    let reaches : All (λ r. r.0 ≡ half_perimeter nets r.1) sorted = All-permutation (λ r. r.0 ≡ half_perimeter nets r.1) ranks sorted moved h.reaches in
    let distinct : IsDistinct nat_eq (map net_of sorted) =
    IsDistinct-IsPermutation nat_eq flips (map net_of ranks) (map net_of sorted) nets_moved (subst (IsDistinct nat_eq) (sym h.numbers) (distinct_counted n)) in
    let count = length-map sorted net_of in
    record {
      each = λ k. (
        (λ i.
            let c = Contains-permutation (map net_of sorted) (map net_of ranks) k (IsPermutation-sym (map net_of ranks) (map net_of sorted) nets_moved) (in_contains (map net_of sorted) k i) in
            let lt = below_counted n k (subst (λ xs. In k xs) h.numbers (contains_in (map net_of ranks) k c)) in
            omega arith),
        (λ lt.
            let i : In k (map net_of ranks) = subst (λ xs. In k xs) (sym h.numbers) (in_counted n k (omega arith)) in
            contains_in (map net_of sorted) k (Contains-permutation (map net_of ranks) (map net_of sorted) k nets_moved (in_contains (map net_of ranks) k i))),
      );
      ordered = λ i j d p q.
          let e : ℕ × ℕ = (0, 0) in
          let qs : j < length sorted = omega arith in
          let ps : i < length sorted = omega arith in
          let a = get_or sorted i e in
          let b = get_or sorted j e in
          let first = get_map sorted i d e ps in
          let second = get_map sorted j d e qs in
          let low : is_lt (rank_cmp b a) ≡ false = sorted_far (λ x y. is_lt (rank_cmp x y)) (ranks_by rank_total (λ (r : ℕ × ℕ). r)) sorted in_order i j e (omega arith) qs in
          let apart : nat_eq (slice_index_or (map net_of sorted) i d) (slice_index_or (map net_of sorted) j d) ≡ false = apart_from_distinct nat_eq (map net_of sorted) i j d distinct p q in
          let other : a.1 ≢ b.1 = λ same. different _ _ apart (first ∙ (same ∙ sym second)) in
          let way = not_less a.0 a.1 b.0 b.1 (nat_cmp b.0 a.0) (nat_cmp b.1 a.1) (ranked b.0 a.0 _ refl) (ranked b.1 a.1 _ refl) low other in
          let ra : a.0 ≡ half_perimeter nets a.1 = All-get_or (λ r. r.0 ≡ half_perimeter nets r.1) sorted i e ps reaches in
          let rb : b.0 ≡ half_perimeter nets b.1 = All-get_or (λ r. r.0 ≡ half_perimeter nets r.1) sorted j e qs reaches in
          let way2 : (half_perimeter nets a.1 < half_perimeter nets b.1) ⊎ ((half_perimeter nets a.1 ≡ half_perimeter nets b.1) × (a.1 < b.1)) =
          subst (λ (x : ℕ). (x < half_perimeter nets b.1) ⊎ ((x ≡ half_perimeter nets b.1) × (a.1 < b.1))) ra
          (subst (λ (y : ℕ). (a.0 < y) ⊎ ((a.0 ≡ y) × (a.1 < b.1))) rb way) in
          subst (λ (x : ℕ). IsTrue (net_precedes (half_perimeter nets) x (slice_index_or (map net_of sorted) j d))) (sym first)
          (subst (λ (y : ℕ). IsTrue (net_precedes (half_perimeter nets) a.1 y)) (sym second) (precedes (half_perimeter nets) a.1 b.1 way2));
    }
  where
    different : (x y : ℕ) → nat_eq x y ≡ false → x ≢ y
    different x y e same = let t = eq-eqb x y same in let both : ◌≡◌ {A = Bool} true false = sym t ∙ e in absurd (cc both)
