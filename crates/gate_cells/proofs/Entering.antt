-- One cell more among those whose gates are listed.
use Rattle.std.proofs.Common.{◌≡◌, inl, inr, ℕ, zero, suc, ◌+◌, ◌<◌, ◌≤◌, List, [], ◌∷◌, ◌++◌, length, map, take, get_or, Option, None, Some, IfSome, IfNone, refl, sym, ◌∙◌, ap, subst, arith}
use Rattle.std.specs.Prelude.{slice_get, sum_by}
use Rattle.std.specs.List.Sorted.{IsPermutation}
use Rattle.std.proofs.lemmas.Bool.{cases_lt}
use Rattle.std.proofs.lemmas.List.{map-append, take_more}
use Rattle.std.proofs.lemmas.List.Sums.{sum_by-cons}
use Rattle.std.proofs.lemmas.List.Sorted.{IsPermutation-sym, Contains-permutation, sum_by-IsPermutation}
use Rattle.std.proofs.lemmas.Option.{slice_get_within}
use Rattle.vlsi_base.specs.Member.{In, here, there}
use Rattle.cell_model.specs.Cell.{Cell}
use Rattle.cell_model.specs.Library.{IsUsable}
use Rattle.cell_model.proofs.Members.{In-split, In-left, In-right, In-at, place-In}
use Rattle.cell_match.specs.Places.{times}
use Rattle.cell_match.proofs.Filling.{got_end}
use Rattle.cell_match.proofs.Numbers.{one, one_tells}
use Rattle.cell_match.proofs.Pigeons.{times_append}
use Rattle.gate_cells.specs.declared.entry.Entry.{Entry}
use Rattle.gate_cells.specs.Listed.{IsGateCell, IsNoGate}
use Rattle.gate_cells.specs.Entries.{AreEntries}

got_left : {A : Type 0} (xs ys : List A) (n : ℕ) (x : A) → slice_get xs n ≡ Some x → slice_get (xs ++ ys) n ≡ Some x
got_left [] ys n x h = absurd cc
got_left (y ∷ xs) ys zero x h = h
got_left (y ∷ xs) ys (suc n) x h = got_left xs ys n x h

got_last : {A : Type 0} (xs : List A) (x : A) → slice_get (xs ++ x ∷ []) (length xs) ≡ Some x
got_last [] x = refl
got_last (y ∷ xs) x = got_last xs x

only : {A : Type 0} (x y : A) → In x (y ∷ []) → x ≡ y
only x y here = refl
only x y (there h) = elim h [ ]

abbrev place_in : Entry → ℕ
place_in x = x.place

-- an entry of a place that is counted
placed : (p : ℕ) (xs : List Entry) → 0 < times p (map place_in xs) → (x : Entry) × In x xs × (x.place ≡ p)
placed p [] h = absurd (omega (arith, h))
placed p (x ∷ xs) h = elim (one_tells x.place p) [
  | inl is ↦ (x, here, is.0)
  | inr isnt ↦ let o = isnt.1 in let r = placed p xs (omega (arith, h, o)) in (r.0, there r.1, r.2)
]

pub entries_none : AreEntries [] []
entries_none = record { each = λ x h. elim h [ ]; every = λ p c e h usable is_gate. absurd cc; once = λ p. omega arith }

module _ (cells : List Cell) (xs : List Entry) (c : Cell) (so_far : AreEntries cells xs) where
  more_once : (x : Entry) → x.place ≡ length cells → (p : ℕ) → times p (map place_in (xs ++ x ∷ [])) ≤ 1
  more_once x place p =
      let split = ap (times p) (map-append place_in xs (x ∷ [])) ∙ times_append p (map place_in xs) (x.place ∷ []) in
      let old = so_far.once p in
      elim (one_tells x.place p) [
        | inl is ↦ elim (cases_lt 0 (times p (map place_in xs))) [
          | inl some ↦
              let y = placed p xs some in
              let r = so_far.each y.0 y.1 in
              let low = slice_get_within cells y.0.place r.0 r.1 in
              let same = y.2 in
              let first = is.0 in
              absurd (omega (arith, low, same, first, place))
          | inr none ↦ let o = is.1 in omega (arith, split, none, o)
        ]
        | inr isnt ↦ let o = isnt.1 in omega (arith, split, old, o)
      ]

  pub entries_more : (x : Entry) → IsGateCell c x.word x.area → x.place ≡ length cells → AreEntries (cells ++ c ∷ []) (xs ++ x ∷ [])
  entries_more x is place = record {
    each = λ y h. elim (In-split y xs (x ∷ []) h) [
      | inl a ↦ let r = so_far.each y a in (r.0, got_left cells (c ∷ []) y.place r.0 r.1, r.2)
      | inr b ↦
          let same = only y x b in
          let P : ℕ → Type 0 = λ n. slice_get (cells ++ c ∷ []) n ≡ Some c in
          subst (λ (z : Entry). (d : Cell) × (slice_get (cells ++ c ∷ []) z.place ≡ Some d) × IsGateCell d z.word z.area) (sym same)
          (c, subst P (sym place) (got_last cells c), is)
    ];
    every = λ p d e h usable is_gate. elim (got_end cells c p d h) [
      | inl a ↦ let r = so_far.every p d e a usable is_gate in (r.0, In-left r.0 xs (x ∷ []) r.1, r.2)
      | inr b ↦ (x, In-right x xs (x ∷ []) here, place ∙ sym b.0)
    ];
    once = more_once x place;
  }

  pub entries_same : IsNoGate c → AreEntries (cells ++ c ∷ []) xs
  entries_same none = record {
    each = λ y h. let r = so_far.each y h in (r.0, got_left cells (c ∷ []) y.place r.0 r.1, r.2);
    every = λ p d e h usable is_gate. elim (got_end cells c p d h) [
      | inl a ↦ so_far.every p d e a usable is_gate
      | inr b ↦ absurd (none e (subst IsUsable (sym b.1) usable) (ap (λ (z : Cell). z.function) b.1 ∙ is_gate))
    ];
    once = so_far.once;
  }

-- ---- steps of a loop

taken_count : {A : Type 0} (xs : List A) (i : ℕ) → i ≤ length xs → length (take i xs) ≡ i
taken_count xs zero h = refl
taken_count [] (suc i) h = absurd (omega (arith, h))
taken_count (x ∷ xs) (suc i) h = let r = taken_count xs i (omega (arith, h)) in omega (arith, r)

take_all : {A : Type 0} (xs : List A) (i : ℕ) → length xs ≤ i → take i xs ≡ xs
take_all [] zero h = refl
take_all [] (suc i) h = refl
take_all (x ∷ xs) zero h = absurd (omega (arith, h))
take_all {A} (x ∷ xs) (suc i) h = ap (λ (ys : List A). x ∷ ys) (take_all xs i (omega (arith, h)))

module _ (cells : List Cell) (i : ℕ) (c : Cell) (low : i < length cells) (is : c ≡ get_or cells i c) (xs : List Entry) (so_far : AreEntries (take i cells) xs) where
  next : take (i + 1) cells ≡ take i cells ++ c ∷ []
  next = take_more cells i c low ∙ ap (λ (y : Cell). take i cells ++ y ∷ []) (sym is)

  pub step_more : (x : Entry) → IsGateCell c x.word x.area → x.place ≡ i → AreEntries (take (i + 1) cells) (xs ++ x ∷ [])
  step_more x one place =
      subst (λ (cs : List Cell). AreEntries cs (xs ++ x ∷ [])) (sym next)
      (entries_more (take i cells) xs c so_far x one (place ∙ sym (taken_count cells i (omega (arith, low)))))

  pub step_same : IsNoGate c → AreEntries (take (i + 1) cells) xs
  step_same none = subst (λ (cs : List Cell). AreEntries cs xs) (sym next) (entries_same (take i cells) xs c so_far none)

pub step_done : (cells : List Cell) (i : ℕ) (xs : List Entry) → length cells ≤ i → AreEntries (take i cells) xs → AreEntries cells xs
step_done cells i xs over so_far = subst (λ (cs : List Cell). AreEntries cs xs) (take_all cells i over) so_far

pub some_is : (P : Entry → Type 0) (o : Option Entry) (x : Entry) → o ≡ Some x → IfSome o P → P x
some_is P o x is h = subst (λ (p : Option Entry). IfSome p P) is h

pub none_is : (P : Type 0) (o : Option Entry) → o ≡ None → IfNone o P → P
none_is P o is h = subst (λ (p : Option Entry). IfNone p P) is h

-- ---- in another order

In-moved : (xs ys : List Entry) (x : Entry) → IsPermutation xs ys → In x xs → In x ys
In-moved xs ys x p i =
    let r = place-In x xs i in
    let c = Contains-permutation xs ys x p (r.0, r.1, r.2 x) in
    subst (λ (y : Entry). In y ys) c.2 (In-at ys c.0 x c.1)

times_sum : (p : ℕ) (xs : List Entry) → times p (map place_in xs) ≡ sum_by (λ (x : Entry). one x.place p) xs
times_sum p [] = refl
times_sum p (x ∷ xs) =
    let rest = times_sum p xs in
    let sum = sum_by-cons (λ (y : Entry). one y.place p) x xs in
    omega (arith, rest, sum)

pub entries_moved : (cells : List Cell) (xs ys : List Entry) → IsPermutation xs ys → AreEntries cells xs → AreEntries cells ys
entries_moved cells xs ys moved are = record {
  each = λ x h. are.each x (In-moved ys xs x (IsPermutation-sym xs ys moved) h);
  every = λ p c e h usable is_gate. let r = are.every p c e h usable is_gate in (r.0, In-moved xs ys r.0 moved r.1, r.2);
  once = λ p.
      let a = times_sum p xs in
      let b = times_sum p ys in
      let same = sum_by-IsPermutation (λ (x : Entry). one x.place p) xs ys moved in
      let old = are.once p in
      omega (arith, a, b, same, old);
}
