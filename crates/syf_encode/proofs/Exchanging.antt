-- What an exchange of two states changes of the cost: only what the edges of these two cost.
use Rattle.std.proofs.Common.{◌≡◌, ◌≢◌, ℕ, ◌+◌, ◌==◌, ◌<◌, nat_lt, Bool, true, false, not, ◌&&◌, List, map, length, filter, sum_by, refl, ap, ◌∙◌, arith, if◌then◌else◌}
use Rattle.std.specs.List.{slice_index_or, swap}
use Rattle.std.proofs.lemmas.Bool.{ltb-true, ltb-false, eqb-true, eq-eqb}
use Rattle.fsm_machine.specs.MachineOf.{up}
use Rattle.fsm_machine.specs.Encoding.{bits_of, width_of, apart, distance, cost, Exchange, exchanged}
use Rattle.fsm_machine.proofs.Coding.{turned_first, turned_second, swapped_at, length_swap}
use Rattle.syf_encode.specs.Pieces.{neighbours_by, reach, pair_weight}
use Rattle.syf_encode.proofs.Apart.{apart_turned}
use Rattle.syf_encode.proofs.Neighbours.{neighbours_at}
use Rattle.syf_encode.proofs.Sums.{when, sum_same, sum_added, sum_behind, sum_filtered, sum_without}

-- what one ordered pair costs
abbrev pair_cost : (ℕ → ℕ → Bool) → ℕ → List ℕ → ℕ → ℕ → ℕ
pair_cost edge n xs s t = if edge s t && not (s == t) then distance n xs s t else 0

distance_turned : (n : ℕ) (xs : List ℕ) (s t : ℕ) → distance n xs s t ≡ distance n xs t s
distance_turned n xs s t = apart_turned _ _

-- what both directions of the pairs of a state cost, without one other state
abbrev around : (ℕ → ℕ → Bool) → ℕ → List ℕ → ℕ → ℕ → ℕ
around edge n xs s other = sum_by (λ t. when (not (t == other)) (pair_cost edge n xs s t + pair_cost edge n xs t s)) (up 0 n)

-- the reach of a state over its neighbours is that
reach_is : (edge : ℕ → ℕ → Bool) (n : ℕ) (xs : List ℕ) (s other : ℕ) → reach n xs s other (neighbours_by edge n s) ≡ around edge n xs s other
reach_is edge n xs s other =
    let f : ℕ → ℕ = λ t. if t == other then 0 else distance n xs s t in
    let p : ℕ → Bool = λ t. edge s t && not (s == t) in
    let q : ℕ → Bool = λ t. edge t s && not (t == s) in
    let a = sum_behind f (filter p (up 0 n)) (filter q (up 0 n)) in
    let b = sum_filtered p f (up 0 n) in
    let c = sum_filtered q f (up 0 n) in
    let d = sum_added (λ t. when (p t) (f t)) (λ t. when (q t) (f t)) (up 0 n) in
    let e = sum_same (λ t. when (p t) (f t) + when (q t) (f t)) (λ t. when (not (t == other)) (pair_cost edge n xs s t + pair_cost edge n xs t s)) 0 n
    (λ t l m. point (p t) (q t) (t == other) (distance n xs s t) (distance n xs t s) (distance_turned n xs s t)) in
    omega arith where
      point : (p q o : Bool) (d e : ℕ) → d ≡ e → when p (if o then 0 else d) + when q (if o then 0 else d) ≡ when (not o) (when p d + when q e)
      point true true true d e h = refl
      point true false true d e h = refl
      point false true true d e h = refl
      point false false true d e h = refl
      point true true false d e h = omega arith
      point true false false d e h = refl
      point false true false d e h = omega arith
      point false false false d e h = refl

-- The cost is what pairs of other states cost, what the edges of each of the two to other states cost, and what the edges between
-- them cost.
abbrev elsewhere : (ℕ → ℕ → Bool) → ℕ → List ℕ → ℕ → ℕ → ℕ
elsewhere edge n xs i j =
    sum_by (λ s. when (not (s == i) && not (s == j)) (sum_by (λ t. when (not (t == i) && not (t == j)) (pair_cost edge n xs s t)) (up 0 n))) (up 0 n)

-- By `sum_without` at i and at j, over s and within each sum over t; a pair of a state with itself costs nothing.
cost_parts : (edge : ℕ → ℕ → Bool) (n : ℕ) (xs : List ℕ) (i j : ℕ) → i < j → j < n
    → cost edge n xs ≡ elsewhere edge n xs i j + (around edge n xs i j + around edge n xs j i + (pair_cost edge n xs i j + pair_cost edge n xs j i))
cost_parts edge n xs i j l m =
    let P : ℕ → ℕ → ℕ = pair_cost edge n xs in
    let R : ℕ → ℕ = λ s. sum_by (P s) (up 0 n) in
    let others : ℕ → ℕ = λ s. sum_by (λ t. when (not (t == i) && not (t == j)) (P s t)) (up 0 n) in
    -- the rows of i, of j, and of all others
    let a : sum_by R (up 0 n) ≡ R i + sum_by (λ s. when (not (s == i)) (R s)) (up 0 n) = sum_without R 0 n i (omega arith) (omega arith) in
    let b : sum_by (λ s. when (not (s == i)) (R s)) (up 0 n) ≡ R j + sum_by (λ s. when (not (s == j)) (when (not (s == i)) (R s))) (up 0 n) =
    sum_without (λ s. when (not (s == i)) (R s)) 0 n j (omega arith) (omega arith) ∙ ap (λ v. v + sum_by (λ s. when (not (s == j)) (when (not (s == i)) (R s))) (up 0 n)) (unlike j i (R j) (omega arith)) in
    -- a row is its places at i and at j, and the others
    let row : (s : ℕ) → R s ≡ P s i + (P s j + others s) = λ s. two_out (P s) i j l m in
    let c : sum_by (λ s. when (not (s == j)) (when (not (s == i)) (R s))) (up 0 n)
    ≡ sum_by (λ s. when (not (s == i) && not (s == j)) (P s i + P s j) + when (not (s == i) && not (s == j)) (others s)) (up 0 n) =
    sum_same _ _ 0 n (λ s h g. ap (λ v. when (not (s == j)) (when (not (s == i)) v)) (row s) ∙ both_out (s == i) (s == j) (P s i) (P s j) (others s)) in
    let d = sum_added (λ s. when (not (s == i) && not (s == j)) (P s i + P s j)) (λ s. when (not (s == i) && not (s == j)) (others s)) (up 0 n) in
    -- the edges of i and of j to others, in both directions
    let e1 = sum_same _ _ 0 n (λ t h k. split (not (t == j)) (P i t) (P t i)) ∙ sum_added (λ t. when (not (t == j)) (P i t)) (λ t. when (not (t == j)) (P t i)) (up 0 n) in
    let e2 = one_out (P i) i j (omega arith) (omega arith) (own edge n xs i) in
    let e3 = one_out (λ t. P t i) i j (omega arith) (omega arith) (own edge n xs i) in
    let e : around edge n xs i j ≡ others i + sum_by (λ s. when (not (s == i) && not (s == j)) (P s i)) (up 0 n) = omega arith in
    let f1 = sum_same _ _ 0 n (λ t h k. split (not (t == i)) (P j t) (P t j)) ∙ sum_added (λ t. when (not (t == i)) (P j t)) (λ t. when (not (t == i)) (P t j)) (up 0 n) in
    let f2 = one_out (P j) j i m (omega arith) (own edge n xs j) ∙ turned_round (P j) j i in
    let f3 = one_out (λ t. P t j) j i m (omega arith) (own edge n xs j) ∙ turned_round (λ t. P t j) j i in
    let f : around edge n xs j i ≡ others j + sum_by (λ s. when (not (s == i) && not (s == j)) (P s j)) (up 0 n) = omega arith in
    let g : sum_by (λ s. when (not (s == i) && not (s == j)) (P s i + P s j)) (up 0 n)
    ≡ sum_by (λ s. when (not (s == i) && not (s == j)) (P s i)) (up 0 n) + sum_by (λ s. when (not (s == i) && not (s == j)) (P s j)) (up 0 n) =
    sum_same _ _ 0 n (λ s h k. split (not (s == i) && not (s == j)) (P s i) (P s j)) ∙ sum_added _ _ (up 0 n) in
    let ri = row i in
    let rj = row j in
    let own_i = own edge n xs i in
    let own_j = own edge n xs j in
    omega arith where
      -- a pair of a state with itself costs nothing
      own : (edge : ℕ → ℕ → Bool) (n : ℕ) (xs : List ℕ) (s : ℕ) → pair_cost edge n xs s s ≡ 0
      own edge n xs s = ap (λ t. if edge s s && not t then distance n xs s s else 0) (eq-eqb s s refl) ∙ never (edge s s) (distance n xs s s) where
        never : (t : Bool) (d : ℕ) → (if t && false then d else 0) ≡ 0
        never true d = refl
        never false d = refl

      unlike : (a b v : ℕ) → a ≢ b → when (not (a == b)) v ≡ v
      unlike a b v h = by (a == b) refl where
        by : (t : Bool) → (a == b) ≡ t → when (not t) v ≡ v
        by true e = absurd (h (eqb-true a b e))
        by false e = refl

      split : (t : Bool) (a b : ℕ) → when t (a + b) ≡ when t a + when t b
      split true a b = refl
      split false a b = refl

      both_out : (p q : Bool) (a b o : ℕ) → when (not q) (when (not p) (a + (b + o))) ≡ when (not p && not q) (a + b) + when (not p && not q) o
      both_out true true a b o = refl
      both_out true false a b o = refl
      both_out false true a b o = refl
      both_out false false a b o = omega arith

      nested : (p q : Bool) (v : ℕ) → when (not q) (when (not p) v) ≡ when (not p && not q) v
      nested true true v = refl
      nested true false v = refl
      nested false true v = refl
      nested false false v = refl

      -- a sum without b, where there is nothing at a
      one_out : (f : ℕ → ℕ) (a b : ℕ) → a < n → a ≢ b → f a ≡ 0
          → sum_by (λ t. when (not (t == b)) (f t)) (up 0 n) ≡ sum_by (λ t. when (not (t == a) && not (t == b)) (f t)) (up 0 n)
      one_out f a b h unequal none =
          let x = sum_without (λ t. when (not (t == b)) (f t)) 0 n a (omega arith) (omega arith) in
          let y = unlike a b (f a) unequal in
          let z = sum_same (λ t. when (not (t == a)) (when (not (t == b)) (f t))) (λ t. when (not (t == a) && not (t == b)) (f t)) 0 n
          (λ t k g. nested (t == b) (t == a) (f t) ∙ either_way (t == b) (t == a) (f t)) in
          omega arith where
            either_way : (p q : Bool) (v : ℕ) → when (not p && not q) v ≡ when (not q && not p) v
            either_way true true v = refl
            either_way true false v = refl
            either_way false true v = refl
            either_way false false v = refl

      turned_round : (f : ℕ → ℕ) (a b : ℕ) → sum_by (λ t. when (not (t == a) && not (t == b)) (f t)) (up 0 n) ≡ sum_by (λ t. when (not (t == b) && not (t == a)) (f t)) (up 0 n)
      turned_round f a b = sum_same _ _ 0 n (λ t h k. either_way (t == a) (t == b) (f t)) where
        either_way : (p q : Bool) (v : ℕ) → when (not p && not q) v ≡ when (not q && not p) v
        either_way true true v = refl
        either_way true false v = refl
        either_way false true v = refl
        either_way false false v = refl

      two_out : (f : ℕ → ℕ) (i j : ℕ) → i < j → j < n → sum_by f (up 0 n) ≡ f i + (f j + sum_by (λ t. when (not (t == i) && not (t == j)) (f t)) (up 0 n))
      two_out f i j l m =
          let a = sum_without f 0 n i (omega arith) (omega arith) in
          let b = sum_without (λ t. when (not (t == i)) (f t)) 0 n j (omega arith) (omega arith) in
          let c = unlike j i (f j) (omega arith) in
          let d = sum_same (λ t. when (not (t == j)) (when (not (t == i)) (f t))) (λ t. when (not (t == i) && not (t == j)) (f t)) 0 n (λ t h g. nested (t == i) (t == j) (f t)) in
          omega arith

-- An exchange changes neither the first nor the last part.
-- Number s of the exchanged list is number s of the list, where s is neither: `swapped_at` and `turned`.
elsewhere_same : (edge : ℕ → ℕ → Bool) (n : ℕ) (xs : List ℕ) (i j : ℕ) → length xs ≡ n → i < j → j < n
    → elsewhere edge n (swap xs i j) i j ≡ elsewhere edge n xs i j
elsewhere_same edge n xs i j e l m =
    sum_same _ _ 0 n (λ s a b. row s (s == i) refl (s == j) refl) where
      at_other : (k : ℕ) → (k == i) ≡ false → (k == j) ≡ false → slice_index_or (swap xs i j) k 0 ≡ slice_index_or xs k 0
      at_other k p q = swapped_at xs i j k (omega arith) (omega arith) ∙ ap (λ (t : ℕ). slice_index_or xs t 0) (rw (p, q) refl)

      cost_at : (s t : ℕ) → (s == i) ≡ false → (s == j) ≡ false → (t == i) ≡ false → (t == j) ≡ false
          → pair_cost edge n (swap xs i j) s t ≡ pair_cost edge n xs s t
      cost_at s t p q u v =
          ap (λ d. if edge s t && not (s == t) then d else 0)
          (ap (λ (a : ℕ). apart (bits_of (width_of n) a) (bits_of (width_of n) (slice_index_or (swap xs i j) t 0))) (at_other s p q)
          ∙ ap (λ (b : ℕ). apart (bits_of (width_of n) (slice_index_or xs s 0)) (bits_of (width_of n) b)) (at_other t u v))

      place : (s t : ℕ) → (s == i) ≡ false → (s == j) ≡ false → (p : Bool) → (t == i) ≡ p → (q : Bool) → (t == j) ≡ q
          → when (not p && not q) (pair_cost edge n (swap xs i j) s t) ≡ when (not p && not q) (pair_cost edge n xs s t)
      place s t u v true f q g = refl
      place s t u v false f true g = refl
      place s t u v false f false g = cost_at s t u v f g

      row : (s : ℕ) (p : Bool) → (s == i) ≡ p → (q : Bool) → (s == j) ≡ q
          → when (not p && not q) (sum_by (λ t. when (not (t == i) && not (t == j)) (pair_cost edge n (swap xs i j) s t)) (up 0 n))
          ≡ when (not p && not q) (sum_by (λ t. when (not (t == i) && not (t == j)) (pair_cost edge n xs s t)) (up 0 n))
      row s true f q g = refl
      row s false f true g = refl
      row s false f false g = sum_same _ _ 0 n (λ t a b. place s t f g (t == i) refl (t == j) refl)

between_same : (edge : ℕ → ℕ → Bool) (n : ℕ) (xs : List ℕ) (i j : ℕ) → length xs ≡ n → i < j → j < n
    → pair_cost edge n (swap xs i j) i j + pair_cost edge n (swap xs i j) j i ≡ pair_cost edge n xs i j + pair_cost edge n xs j i
between_same edge n xs i j e l m =
    let first : distance n (swap xs i j) i j ≡ distance n xs i j = swapped_distance ∙ distance_turned n xs j i in
    let second : distance n (swap xs i j) j i ≡ distance n xs j i = distance_turned n (swap xs i j) j i ∙ first ∙ distance_turned n xs i j in
    let a : pair_cost edge n (swap xs i j) i j ≡ pair_cost edge n xs i j = ap (λ d. if edge i j && not (i == j) then d else 0) first in
    let b : pair_cost edge n (swap xs i j) j i ≡ pair_cost edge n xs j i = ap (λ d. if edge j i && not (j == i) then d else 0) second in
    omega arith where
      -- number i of the exchanged list is number j of the list, and the other way round
      swapped_distance : distance n (swap xs i j) i j ≡ distance n xs j i
      swapped_distance =
          ap (λ (a : ℕ). apart (bits_of (width_of n) a) (bits_of (width_of n) (slice_index_or (swap xs i j) j 0)))
          (swapped_at xs i j i (omega arith) (omega arith) ∙ ap (λ (t : ℕ). slice_index_or xs t 0) (turned_first i j))
          ∙ ap (λ (b : ℕ). apart (bits_of (width_of n) (slice_index_or xs j 0)) (bits_of (width_of n) b))
          (swapped_at xs i j j (omega arith) (omega arith) ∙ ap (λ (t : ℕ). slice_index_or xs t 0) (turned_second i j))

-- So the exchange lowers the cost exactly where it lowers what the two cost.
pub lowers_alike : (edge : ℕ → ℕ → Bool) (n : ℕ) (xs : List ℕ) (x : Exchange) (near : List (List ℕ)) → length xs ≡ n → x.first < x.second → x.second < n
    → near ≡ map (neighbours_by edge n) (up 0 n)
    → nat_lt (pair_weight (exchanged xs x) x near) (pair_weight xs x near) ≡ nat_lt (cost edge n (exchanged xs x)) (cost edge n xs)
lowers_alike edge n xs x near e l m is =
    let i = x.first in
    let j = x.second in
    let ys = exchanged xs x in
    let parts = cost_parts edge n xs i j l m in
    let others = cost_parts edge n ys i j l m in
    let same = elsewhere_same edge n xs i j e l m in
    let between = between_same edge n xs i j e l m in
    let before : pair_weight xs x near ≡ around edge n xs i j + around edge n xs j i = weight_is xs e in
    let after : pair_weight ys x near ≡ around edge n ys i j + around edge n ys j i = weight_is ys (length_swap xs i j (omega arith) (omega arith) ∙ e) in
    rw (before, after, parts, others, same, between)
    (below_alike (elsewhere edge n xs i j) (around edge n ys i j + around edge n ys j i) (around edge n xs i j + around edge n xs j i)
    (pair_cost edge n xs i j + pair_cost edge n xs j i)) where
      weight_is : (zs : List ℕ) → length zs ≡ n → pair_weight zs x near ≡ around edge n zs x.first x.second + around edge n zs x.second x.first
      weight_is zs g =
          rw (g, neighbours_at edge n x.first near is (omega arith), neighbours_at edge n x.second near is m)
          (let a = reach_is edge n zs x.first x.second in let b = reach_is edge n zs x.second x.first in omega arith)

      below_alike : (out a b between : ℕ) → nat_lt a b ≡ nat_lt (out + (a + between)) (out + (b + between))
      below_alike out a b between = by (nat_lt a b) refl (nat_lt (out + (a + between)) (out + (b + between))) refl where
        by : (t : Bool) → nat_lt a b ≡ t → (u : Bool) → nat_lt (out + (a + between)) (out + (b + between)) ≡ u → t ≡ u
        by true p true q = refl
        by false p false q = refl
        by true p false q = let h = ltb-true a b p in let g = ltb-false (out + (a + between)) (out + (b + between)) q in absurd (omega arith)
        by false p true q = let h = ltb-false a b p in let g = ltb-true (out + (a + between)) (out + (b + between)) q in absurd (omega arith)
