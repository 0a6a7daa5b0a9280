-- All pairs of places of a list, in the order of the first and then of the second, and sorted lists of some of them.
use Rattle.std.proofs.Common.{◌≡◌, ℕ, suc, ◌+◌, ◌<◌, ◌≤◌, ◌⊎◌, inl, inr, List, [], ◌∷◌, ◌++◌, map, length, get_or, refl, sym, ◌∙◌, ap, subst, arith}
use Rattle.std.specs.List.{AllByRecursion}
use Rattle.std.specs.List.Sorted.{IsStrictlySortedBy}
use Rattle.std.specs.Ordering.{MatchOrdering, nat_cmp, ordering_then}
use Rattle.std.specs.declared.cmp.Ordering.{Ordering}
use Rattle.std.specs.declared.cmp.Ordering.TheVariants.{Less, Equal, Greater}
use Rattle.std.proofs.lemmas.Bool.{cases_eq}
use Rattle.std.proofs.lemmas.Cmp.{ranked}
use Rattle.vlsi_base.specs.Member.{In, here, there, Picks, done, takes, skips, pairs}
use Rattle.cell_model.proofs.Members.{In-split, In-left, In-right, In-map, In-map_back}
use Rattle.sym_near.specs.declared.near.Pair.{Pair}
use Rattle.sym_near.specs.Related.{pair, pair_cmp}

-- ---- order

abbrev pub Before : Pair → Pair → Type 0
Before p q = (p.first < q.first) ⊎ ((p.first ≡ q.first) × (p.second < q.second))

before_not : (p q : Pair) → Before p q → p ≡ q → ⊥
before_not p q b e =
    let f : p.first ≡ q.first = ap (λ (x : Pair). x.first) e in
    let s : p.second ≡ q.second = ap (λ (x : Pair). x.second) e in
    elim b [ inl lt ↦ omega (arith, lt, f) | inr h ↦ let lt = h.1 in omega (arith, lt, s) ]

before_once : (p q : Pair) → Before p q → Before q p → ⊥
before_once p q b c = elim b [
  | inl lt ↦ elim c [ inl gt ↦ omega (arith, lt, gt) | inr h ↦ let e = h.0 in omega (arith, lt, e) ]
  | inr k ↦ let f = k.0 in let lt = k.1 in elim c [ inl gt ↦ omega (arith, f, gt) | inr h ↦ let gt = h.1 in omega (arith, lt, gt) ]
]

-- each stands before all behind it
abbrev pub Rising : List Pair → Type 0
Rising [] = Unit {0}
Rising (p ∷ ps) = ((q : Pair) → In q ps → Before p q) × Rising ps

before_so : (p q : Pair) (o1 o2 : Ordering) → MatchOrdering o1 (p.first < q.first) (p.first ≡ q.first) (q.first < p.first)
    → MatchOrdering o2 (p.second < q.second) (p.second ≡ q.second) (q.second < p.second) → ordering_then o1 o2 ≡ Less → Before p q
before_so p q Less o2 m1 m2 h = inl m1
before_so p q Equal Less m1 m2 h = inr (m1, m2)
before_so p q Equal Equal m1 m2 h = absurd (cc h)
before_so p q Equal Greater m1 m2 h = absurd (cc h)
before_so p q Greater o2 m1 m2 h = absurd (cc h)

less_before : (p q : Pair) → pair_cmp p q ≡ Less → Before p q
less_before p q h =
    before_so p q (nat_cmp p.first q.first) (nat_cmp p.second q.second) (ranked p.first q.first _ refl) (ranked p.second q.second _ refl) h

behind_all : (p : Pair) (ps : List Pair) → AllByRecursion (λ q. pair_cmp p q ≡ Less) ps → (q : Pair) → In q ps → Before p q
behind_all p [] h q i = elim i [ ]
behind_all p (x ∷ xs) h q here = less_before p x h.0
behind_all p (x ∷ xs) h q (there i) = behind_all p xs h.1 q i

pub rising_so : (ps : List Pair) → IsStrictlySortedBy pair_cmp ps → Rising ps
unfolding IsStrictlySortedBy
rising_so [] s = tt
rising_so (p ∷ ps) s = (behind_all p ps s.0, rising_so ps s.1)

rising_both : (ps qs : List Pair) → Rising ps → Rising qs → ((p q : Pair) → In p ps → In q qs → Before p q) → Rising (ps ++ qs)
rising_both [] qs r s all = s
rising_both (p ∷ ps) qs r s all = (
  λ q i. elim (In-split q ps qs i) [ inl a ↦ r.0 q a | inr b ↦ all p q here b ],
  rising_both ps qs r.1 s (λ a b i j. all a b (there i) j),
)

-- ---- those of a sorted list that have a property, if they are sorted too

cases_pair : (p q : Pair) → (p ≡ q) ⊎ (p ≡ q → ⊥)
cases_pair p q = elim (cases_eq p.first q.first) [
  | inl f ↦ elim (cases_eq p.second q.second) [
    | inl s ↦ inl (λ i. record { first = f i; second = s i })
    | inr other ↦ inr (λ e. other (ap (λ (x : Pair). x.second) e))
  ]
  | inr other ↦ inr (λ e. other (ap (λ (x : Pair). x.first) e))
]

later : (p q : Pair) (ps : List Pair) → In q (p ∷ ps) → (q ≡ p → ⊥) → In q ps
later p q ps here n = absurd (n refl)
later p q ps (there i) n = i

pub picks_sorted : (R : Pair → Type 0) (keys ks : List Pair) → Rising keys → Rising ks → ((k : Pair) → In k ks → In k keys × R k)
    → ((k : Pair) → In k keys → R k → In k ks) → Picks R keys ks
picks_sorted R [] [] r s sound whole = done
picks_sorted R [] (j ∷ js) r s sound whole = elim (sound j here).0 [ ]
picks_sorted R (k ∷ keys) [] r s sound whole =
    skips (λ h. elim (whole k here h) [ ]) (picks_sorted R keys [] r.1 tt (λ m i. elim i [ ]) (λ m i h. whole m (there i) h))
picks_sorted R (k ∷ keys) (j ∷ js) r s sound whole = elim (cases_pair j k) [
  | inl e ↦
      let rest : Picks R keys js =
      picks_sorted R keys js r.1 s.1
      (λ m i. (later k m keys (sound m (there i)).0 (λ is. before_not j m (s.0 m i) (e ∙ sym is)), (sound m (there i)).1))
      (λ m i h. later j m js (whole m (there i) h) (λ is. before_not k m (r.0 m i) (sym (is ∙ e)))) in
      subst (λ (x : Pair). Picks R (x ∷ keys) (j ∷ js)) e (takes (sound j here).1 rest)
  | inr other ↦
      let first : Before k j = r.0 j (later k j keys (sound j here).0 other) in
      let gone : In k (j ∷ js) → ⊥ = λ i. before_once k j first (s.0 k (later j k js i (λ is. other (sym is)))) in
      skips (λ h. gone (whole k here h))
      (picks_sorted R keys (j ∷ js) r.1 s
      (λ m i. (later k m keys (sound m i).0 (λ is. gone (subst (λ (x : Pair). In x (j ∷ js)) is i)), (sound m i).1))
      (λ m i h. whole m (there i) h))
]

-- ---- all pairs of places

-- the places of a list, from k on
abbrev pub places_from : {A : Type 0} → ℕ → List A → List ℕ
places_from k [] = []
places_from k (x ∷ xs) = k ∷ places_from (suc k) xs

abbrev pub keys_from : {A : Type 0} → ℕ → List A → List Pair
keys_from k [] = []
keys_from k (x ∷ xs) = map (pair k) (places_from (suc k) xs) ++ keys_from (suc k) xs

place_bounds : {A : Type 0} (k : ℕ) (xs : List A) (m : ℕ) → In m (places_from k xs) → (k ≤ m) × (m < k + length xs)
place_bounds k [] m i = elim i [ ]
place_bounds k (x ∷ xs) m here = (omega arith, omega arith)
place_bounds k (x ∷ xs) m (there i) = let b = place_bounds (suc k) xs m i in let low = b.0 in let high = b.1 in (omega (arith, low), omega (arith, high))

place_there : {A : Type 0} (k : ℕ) (xs : List A) (m : ℕ) → k ≤ m → m < k + length xs → In m (places_from k xs)
place_there k [] m low high = absurd (omega arith)
place_there k (x ∷ xs) m low high = elim (cases_eq k m) [
  | inl e ↦ subst (λ (y : ℕ). In y (k ∷ places_from (suc k) xs)) e here
  | inr other ↦ there (place_there (suc k) xs m (omega (arith, low, other)) (omega (arith, high)))
]

pub key_bounds : {A : Type 0} (k : ℕ) (xs : List A) (p : Pair) → In p (keys_from k xs) → (k ≤ p.first) × (p.first < p.second) × (p.second < k + length xs)
key_bounds k [] p i = elim i [ ]
key_bounds k (x ∷ xs) p i = elim (In-split p (map (pair k) (places_from (suc k) xs)) (keys_from (suc k) xs) i) [
  | inl a ↦
      let m = In-map_back (pair k) p (places_from (suc k) xs) a in
      let b = place_bounds (suc k) xs m.0 m.1 in
      let low = b.0 in
      let high = b.1 in
      let first : p.first ≡ k = ap (λ (q : Pair). q.first) (sym m.2) in
      let second : p.second ≡ m.0 = ap (λ (q : Pair). q.second) (sym m.2) in
      (omega (arith, first), omega (arith, first, second, low), omega (arith, second, high))
  | inr b ↦
      let h = key_bounds (suc k) xs p b in
      let low = h.0 in
      let high = h.2 in
      (omega (arith, low), h.1, omega (arith, high))
]

pub key_there : {A : Type 0} (k : ℕ) (xs : List A) (i j : ℕ) → k ≤ i → i < j → j < k + length xs → In (pair i j) (keys_from k xs)
key_there k [] i j low between high = absurd (omega arith)
key_there k (x ∷ xs) i j low between high = elim (cases_eq k i) [
  | inl e ↦
      let at : In (pair k j) (keys_from k (x ∷ xs)) =
      In-left (pair k j) (map (pair k) (places_from (suc k) xs)) (keys_from (suc k) xs)
      (In-map (pair k) j (places_from (suc k) xs) (place_there (suc k) xs j (omega (arith, e, between)) (omega (arith, high)))) in
      subst (λ (y : ℕ). In (pair y j) (keys_from k (x ∷ xs))) e at
  | inr other ↦
      In-right (pair i j) (map (pair k) (places_from (suc k) xs)) (keys_from (suc k) xs)
      (key_there (suc k) xs i j (omega (arith, low, other)) between (omega (arith, high)))
]

row_rising : {A : Type 0} (k m : ℕ) (xs : List A) → Rising (map (pair k) (places_from m xs))
row_rising k m [] = tt
row_rising k m (x ∷ xs) = (
  λ q i.
      let f = In-map_back (pair k) q (places_from (suc m) xs) i in
      let b = place_bounds (suc m) xs f.0 f.1 in
      let low = b.0 in
      subst (λ (y : Pair). Before (pair k m) y) f.2 (inr (refl, omega (arith, low))),
  row_rising k (suc m) xs,
)

pub keys_rising : {A : Type 0} (k : ℕ) (xs : List A) → Rising (keys_from k xs)
keys_rising k [] = tt
keys_rising k (x ∷ xs) =
    rising_both (map (pair k) (places_from (suc k) xs)) (keys_from (suc k) xs) (row_rising k (suc k) xs) (keys_rising (suc k) xs)
    (λ p q i j.
    let f = In-map_back (pair k) p (places_from (suc k) xs) i in
    let b = key_bounds (suc k) xs q j in
    let low = b.0 in
    let first : p.first ≡ k = ap (λ (y : Pair). y.first) (sym f.2) in
    inl (omega (arith, low, first)))

-- ---- the elements at these places

map_both : {A B : Type 0} (f : A → B) (xs ys : List A) → map f (xs ++ ys) ≡ map f xs ++ map f ys
map_both f [] ys = refl
map_both f (x ∷ xs) ys = ap (λ zs. f x ∷ zs) (map_both f xs ys)

module _ {A : Type 0} (all : List A) (d : A) where
  abbrev element : ℕ → A
  element k = get_or all k d

  abbrev pub both_at : Pair → A × A
  both_at p = (element p.first, element p.second)

  -- the list goes on like this from a place on
  abbrev GoesOn : ℕ → List A → Type 0
  GoesOn k xs = (m : ℕ) → m < length xs → element (k + m) ≡ get_or xs m d

  goes_next : (k : ℕ) (x : A) (xs : List A) → GoesOn k (x ∷ xs) → GoesOn (suc k) xs
  goes_next k x xs g m low = let e : suc k + m ≡ k + suc m = omega arith in ap element e ∙ g (suc m) (omega arith)

  head_at : (k : ℕ) (x : A) (xs : List A) → GoesOn k (x ∷ xs) → element k ≡ x
  head_at k x xs g = let e : k ≡ k + 0 = omega arith in ap element e ∙ g 0 (omega arith)

  row_read : (k m : ℕ) (one : A) (xs : List A) → element k ≡ one → GoesOn m xs → map both_at (map (pair k) (places_from m xs)) ≡ map (λ y. (one, y)) xs
  row_read k m one [] e g = refl
  row_read k m one (x ∷ xs) e g =
      let first : (A × A) → List (A × A) = λ p. p ∷ map both_at (map (pair k) (places_from (suc m) xs)) in
      let pair_is : both_at (pair k m) ≡ (one, x) = λ i. (e i, head_at m x xs g i) in
      ap first pair_is ∙ ap (λ (ps : List (A × A)). (one, x) ∷ ps) (row_read k (suc m) one xs e (goes_next m x xs g))

  keys_read : (k : ℕ) (xs : List A) → GoesOn k xs → map both_at (keys_from k xs) ≡ pairs xs
  keys_read k [] g = refl
  keys_read k (x ∷ xs) g =
      map_both both_at (map (pair k) (places_from (suc k) xs)) (keys_from (suc k) xs)
      ∙ ap (λ (ps : List (A × A)). ps ++ map both_at (keys_from (suc k) xs)) (row_read k (suc k) x xs (head_at k x xs g) (goes_next k x xs g))
      ∙ ap (λ (ps : List (A × A)). map (λ y. (x, y)) xs ++ ps) (keys_read (suc k) xs (goes_next k x xs g))

  pub all_pairs : map both_at (keys_from 0 all) ≡ pairs all
  all_pairs = keys_read 0 all (λ m low. let e : 0 + m ≡ m = omega arith in ap element e)
