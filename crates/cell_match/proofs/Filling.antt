-- A table that is filled with a cell's orders.
use Rattle.std.proofs.Common.{◌≡◌, ◌≢◌, ◌⊎◌, inl, inr, ℕ, ◌+◌, ◌<◌, ◌≤◌, ◌^◌, List, [], ◌∷◌, ◌++◌, take, get_or, length, slice_get, Option, None, Some, ap, refl, sym, subst, ◌∙◌, arith, length-append}
use Prim.Native.Nat.{zero, suc}
use Rattle.std.proofs.lemmas.Bool.{cases_lt}
use Rattle.cell_match.specs.declared.gate.CellWord.{CellWord}
use Rattle.cell_match.specs.declared.table.Match.{Match}
use Rattle.cell_match.specs.Places.{times, IsOrder}
use Rattle.cell_match.specs.Cells.{inputs_of, IsOf, IsMatch}
use Rattle.cell_match.specs.Matches.{Known, IsMoreOf, AreMatches, IsBegun, KnowsEach}
use Rattle.cell_match.proofs.Numbers.{one_tells, times_here, times_some}
use Rattle.cell_match.proofs.Pigeons.{times_append}
use Rattle.cell_match.proofs.Entering.{more_both, known_more}

-- the same, for orders whose next place is below this one
abbrev pub KnowsBelow : List CellWord → ℕ → List ℕ → ℕ → (ℕ → Option Match) → Type 0
KnowsBelow cells k begun place at =
    (word : ℕ) (order : List ℕ) → word < 2 ^ 64 → IsOrder (inputs_of cells k) order → take (length begun) order ≡ begun
    → get_or order (length begun) 0 < place → IsOf cells k order word → Known at word

take_whole : (xs : List ℕ) (n : ℕ) → length xs ≡ n → take n xs ≡ xs
take_whole [] zero h = refl
take_whole [] (suc n) h = refl
take_whole (x ∷ xs) zero h = absurd (omega arith)
take_whole (x ∷ xs) (suc n) h = ap (λ (ys : List ℕ). x ∷ ys) (take_whole xs n (omega arith))

take_next : (xs : List ℕ) (n : ℕ) → n < length xs → take (n + 1) xs ≡ take n xs ++ get_or xs n 0 ∷ []
take_next xs n h = ap (λ (k : ℕ). take k xs) (let e : n + 1 ≡ suc n = omega arith in e) ∙ go xs n h where
  go : (xs : List ℕ) (n : ℕ) → n < length xs → take (suc n) xs ≡ take n xs ++ get_or xs n 0 ∷ []
  go [] n h = absurd (omega arith)
  go (x ∷ xs) zero h = refl
  go (x ∷ xs) (suc n) h = ap (λ (ys : List ℕ). x ∷ ys) (go xs n (omega arith))

-- an order that begins with a whole order is that
pub whole_order : (n : ℕ) (begun order : List ℕ) → length begun ≡ n → IsOrder n order → take (length begun) order ≡ begun → order ≡ begun
whole_order n begun order long is same = sym (take_whole order (length begun) (let e = is.many in omega arith)) ∙ same

pub begun_order : (n : ℕ) (begun : List ℕ) → IsBegun n begun → length begun ≡ n → IsOrder n begun
begun_order n begun is long = record { many = long; within = is.within; once = is.once }

pub begun_more : (n : ℕ) (begun : List ℕ) (place : ℕ) → IsBegun n begun → length begun ≢ n → place < n → times place begun ≡ 0 → IsBegun n (begun ++ place ∷ [])
begun_more n begun place is short low new = record {
  many = let e = length-append begun (place ∷ []) in let m = is.many in omega arith;
  within = λ i some. let e = times_append i begun (place ∷ []) in elim (one_tells place i) [
    | inl same ↦ let s = same.0 in omega arith
    | inr isnt ↦ let o = isnt.1 in is.within i (omega arith)
  ];
  once = λ i. let e = times_append i begun (place ∷ []) in let b = is.once i in elim (one_tells place i) [
    | inl same ↦ let o = same.1 in let z : times i begun ≡ 0 = ap (λ (k : ℕ). times k begun) (sym same.0) ∙ new in omega arith
    | inr isnt ↦ let o = isnt.1 in omega arith
  ];
}

module _ (cells : List CellWord) (k : ℕ) (begun : List ℕ) (place : ℕ) (short : length begun < inputs_of cells k) (old new : ℕ → Option Match)
    (grows : (w : ℕ) → Known old w → Known new w) (before : KnowsBelow cells k begun place old) where
  -- the orders with this next place are told of
  pub below_filled : KnowsEach cells k (begun ++ place ∷ []) new → KnowsBelow cells k begun (place + 1) new
  below_filled each word order low is same next of = elim (cases_lt (get_or order (length begun) 0) place) [
    | inl less ↦ grows word (before word order low is same less of)
    | inr not_less ↦
        let here : get_or order (length begun) 0 ≡ place = omega arith in
        let m = is.many in
        let longer : take (length begun + 1) order ≡ begun ++ place ∷ [] =
        take_next order (length begun) (omega arith) ∙ ap (λ (xs : List ℕ). xs ++ get_or order (length begun) 0 ∷ []) same
        ∙ ap (λ (x : ℕ). begun ++ x ∷ []) here in
        let many = length-append begun (place ∷ []) in
        let count : length (begun ++ place ∷ []) ≡ length begun + 1 = omega arith in
        each word order low is (ap (λ (n : ℕ). take n order) count ∙ longer) of
  ]

  -- no order has it as its next place where it stands there before
  pub below_skipped : 0 < times place begun → KnowsBelow cells k begun (place + 1) old
  below_skipped there word order low is same next of = elim (cases_lt (get_or order (length begun) 0) place) [
    | inl less ↦ before word order low is same less of
    | inr not_less ↦
        let here : get_or order (length begun) 0 ≡ place = omega arith in
        let m = is.many in
        let twice = times_here order (length begun) (omega arith) in
        let once = is.once (get_or order (length begun) 0) in
        let e : times (get_or order (length begun) 0) (take (length begun) order) ≡ times place begun =
        ap (λ (xs : List ℕ). times (get_or order (length begun) 0) xs) same ∙ ap (λ (n : ℕ). times n begun) here in
        absurd (omega arith)
  ]

pub below_none : (cells : List CellWord) (k : ℕ) (begun : List ℕ) (at : ℕ → Option Match) → KnowsBelow cells k begun 0 at
below_none cells k begun at word order low is same next of = absurd (omega arith)

pub below_all : (cells : List CellWord) (k : ℕ) (begun : List ℕ) (place : ℕ) (at : ℕ → Option Match) → inputs_of cells k ≤ place → length begun < inputs_of cells k
    → KnowsBelow cells k begun place at → KnowsEach cells k begun at
below_all cells k begun place at all short below word order low is same of =
    let m = is.many in
    below word order low is same (let w = is.within (get_or order (length begun) 0) (times_some order (length begun) (omega arith)) in omega arith) of

-- what the loop keeps
pub record Fills (cells : List CellWord) (k : ℕ) (begun : List ℕ) (place : ℕ) (old now : ℕ → Option Match) : Type 0 where
  pub found : AreMatches cells (inputs_of cells k) now
  pub grows : IsMoreOf k old now
  pub every : KnowsBelow cells k begun place now

pub fills_more : (cells : List CellWord) (k : ℕ) (begun : List ℕ) (place : ℕ) (old now next : ℕ → Option Match) → length begun < inputs_of cells k
    → Fills cells k begun place old now
    → AreMatches cells (inputs_of cells k) next → IsMoreOf k now next → KnowsEach cells k (begun ++ place ∷ []) next
    → Fills cells k begun (place + 1) old next
fills_more cells k begun place old now next short is found grows each = record {
  found = found;
  grows = more_both k old now next is.grows grows;
  every = below_filled cells k begun place short now next (known_more k now next grows) is.every each;
}

pub fills_skipped : (cells : List CellWord) (k : ℕ) (begun : List ℕ) (place : ℕ) (old now : ℕ → Option Match) → length begun < inputs_of cells k
    → Fills cells k begun place old now → 0 < times place begun → Fills cells k begun (place + 1) old now
fills_skipped cells k begun place old now short is there = record {
  found = is.found;
  grows = is.grows;
  every = below_skipped cells k begun place short now now (λ w h. h) is.every there;
}

-- a table of the first cells
pub record FilledTo (cells : List CellWord) (n k : ℕ) (at : ℕ → Option Match) : Type 0 where
  pub found : AreMatches cells n at
  pub every : (word j : ℕ) (order : List ℕ) → j < k → word < 2 ^ 64 → IsMatch cells n word j order → Known at word
  pub first : (word j : ℕ) (order : List ℕ) (x : Match) → word < 2 ^ 64 → at word ≡ Some x → IsMatch cells n word j order → x.cell ≤ j

pub filled_to_more : (cells : List CellWord) (n k : ℕ) (old now : ℕ → Option Match) → inputs_of cells k ≡ n → FilledTo cells n k old
    → AreMatches cells n now → IsMoreOf k old now → KnowsEach cells k [] now → FilledTo cells n (k + 1) now
filled_to_more cells n k old now is before found grows each = record {
  found = found;
  every = λ word j order low fits one. elim (cases_lt j k) [
    | inl less ↦ known_more k old now grows word (before.every word j order less fits one)
    | inr not_less ↦
        let same : j ≡ k = omega arith in
        each word order fits (subst (λ (m : ℕ). IsOrder m order) (sym is) one.ordered) refl (subst (λ (i : ℕ). IsOf cells i order word) same one.same)
  ];
  first = λ word j order x fits e one. elim (grows.added word x e) [
    | inl was ↦ before.first word j order x fits was one
    | inr new ↦ elim (cases_lt j k) [
      | inl less ↦ let known = before.every word j order less fits one in let f : None ≡ Some known.0 = sym new.0 ∙ known.1 in cc
      | inr not_less ↦ let is_k = new.1 in omega arith
    ]
  ];
}

pub filled_to_skipped : (cells : List CellWord) (n k : ℕ) (at : ℕ → Option Match) → inputs_of cells k ≢ n → FilledTo cells n k at → FilledTo cells n (k + 1) at
filled_to_skipped cells n k at other before = record {
  found = before.found;
  every = λ word j order low fits one. elim (cases_lt j k) [
    | inl less ↦ before.every word j order less fits one
    | inr not_less ↦ let same : k ≡ j = omega arith in absurd (other (ap (λ (i : ℕ). inputs_of cells i) same ∙ one.inputs))
  ];
  first = before.first;
}

-- an element of a list with one more
pub got_end : {A : Type 0} (xs : List A) (y : A) (n : ℕ) (m : A) → slice_get (xs ++ y ∷ []) n ≡ Some m → (slice_get xs n ≡ Some m) ⊎ ((n ≡ length xs) × (y ≡ m))
got_end [] y zero m e = inr (refl, (cc))
got_end [] y (suc n) m e = cc
got_end (x ∷ xs) y zero m e = inl e
got_end (x ∷ xs) y (suc n) m e = elim (got_end xs y n m e) [
  | inl in_front ↦ inl in_front
  | inr at_end ↦ inr (ap suc at_end.0, at_end.1)
]
