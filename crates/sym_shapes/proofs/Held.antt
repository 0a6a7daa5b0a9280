-- Shapes that lie within others: what touches them touches those.
use Rattle.std.proofs.Common.{◌≡◌, ℕ, ◌+◌, ◌-◌, ◌<◌, Some, List, [], ◌∷◌, ◌++◌, inl, inr, length, get_or, refl, sym, ◌∙◌, ap, subst, arith}
use Rattle.std.specs.List.{Contains, slice_get}
use Rattle.std.specs.List.Sorted.{IsPermutation}
use Rattle.std.proofs.lemmas.Bool.{cases_lt}
use Rattle.std.proofs.lemmas.Int.{ints}
use Rattle.std.proofs.lemmas.List.{get_or_default}
use Rattle.std.proofs.lemmas.Option.{slice_get_within, get_or_from_slice_get}
use Rattle.std.proofs.lemmas.List.Elements.{Contains-append_left, Contains-push, Contains-push_cases}
use Rattle.std.proofs.lemmas.List.Sorted.{Contains-permutation, IsPermutation-sym}
use Rattle.sym_shapes.specs.Shape.{Shape}
use Rattle.sym_groups.specs.Ties.{Tied, same}
use Rattle.sym_groups.proofs.Steps.{tied_back, tied_then}
use Rattle.sym_shapes.specs.declared.holders.Spot.{Spot}
use Rattle.sym_shapes.specs.Sweep.{Touch, CoversTouching}
use Rattle.sym_shapes.specs.Holders.{LiesIn, AreSpots, HasHolder, HaveHolders}
use Rattle.sym_shapes.proofs.Joins.{read_at}

-- one spot more
pub spots_more : (k : ℕ) (olds : List Spot) (new : Spot) → new.place ≡ k → AreSpots k olds → AreSpots (k + 1) (olds ++ new ∷ [])
spots_more k olds new is spots = record {
  within = λ s h. elim (Contains-push_cases olds new s h) [
    | inl old ↦ let low = spots.within s old in omega (arith, low)
    | inr e ↦ let at : new.place ≡ s.place = ap (λ (x : Spot). x.place) e in omega (arith, at, is)
  ];
  each = λ j low. elim (cases_lt j k) [
    | inl lt ↦ let r = spots.each j lt in (r.0, Contains-append_left olds (new ∷ []) r.0 r.1, r.2)
    | inr ge ↦ let at : k ≡ j = omega (arith, low, ge) in (new, Contains-push olds new, is ∙ at)
  ];
}

-- spots that are moved are still those of the places
pub spots_moved : (n : ℕ) (xs ys : List Spot) → IsPermutation xs ys → AreSpots n xs → AreSpots n ys
spots_moved n xs ys w spots = record {
  within = λ s h. spots.within s (Contains-permutation ys xs s (IsPermutation-sym xs ys w) h);
  each = λ k low. let r = spots.each k low in (r.0, Contains-permutation xs ys r.0 w r.1, r.2);
}

-- the spot that was read at a place
pub spot_read : (spots : List Spot) (k : ℕ) (s d : Spot) → k < length spots → s ≡ get_or spots k s → s ≡ get_or spots k d
spot_read spots k s d low e = e ∙ get_or_default spots k s d low

-- the last of the kept places is kept
pub last_kept : (kept : List ℕ) (j : ℕ) → slice_get kept (length kept - 1) ≡ Some j → Contains kept j
last_kept kept j e = (length kept - 1, slice_get_within kept (length kept - 1) j e, get_or_from_slice_get kept (length kept - 1) j j e)

-- a kept shape holds itself
pub holds_itself : (shapes : List Shape) (kept ps : List ℕ) (k : ℕ) → Contains kept k → HasHolder shapes kept ps k
holds_itself shapes kept ps k h = record {
  holder = k;
  is_kept = h;
  holds = λ d. (refl, record { left = omega (arith, ints); right = omega (arith, ints); low = omega (arith, ints); high = omega (arith, ints) });
  tied = same;
}

-- a kept shape that was read holds another one that was
pub held_by : (shapes : List Shape) (kept ps : List ℕ) (i j : ℕ) (a b : Shape) → i < length shapes → j < length shapes → Contains kept j
    → a ≡ get_or shapes i a → b ≡ get_or shapes j b → LiesIn a b → Tied ps i j → HasHolder shapes kept ps i
held_by shapes kept ps i j a b hi hj is_kept ea eb lies tied = record {
  holder = j;
  is_kept = is_kept;
  holds = λ d. subst (λ (x : Shape). LiesIn x (get_or shapes j d)) (read_at shapes i d a hi ea) (subst (λ (y : Shape). LiesIn a y) (read_at shapes j d b hj eb) lies);
  tied = tied;
}

-- it still does when more are kept and groups have grown
pub still_held : (shapes : List Shape) (kept more ps qs : List ℕ) (k : ℕ) → ((j : ℕ) → Contains kept j → Contains more j) → ((i j : ℕ) → Tied ps i j → Tied qs i j)
    → HasHolder shapes kept ps k → HasHolder shapes more qs k
still_held shapes kept more ps qs k stays ties h = record { holder = h.holder; is_kept = stays h.holder h.is_kept; holds = h.holds; tied = ties k h.holder h.tied }

-- what holds two shapes that touch touches too
wider : (a b v w : Shape) → Touch a b → LiesIn a v → LiesIn b w → Touch v w
wider a b v w t f g =
    let l1 = f.1.left in
    let l2 = f.1.right in
    let l3 = f.1.low in
    let l4 = f.1.high in
    let r1 = g.1.left in
    let r2 = g.1.right in
    let r3 = g.1.low in
    let r4 = g.1.high in
    let t1 = t.1.left in
    let t2 = t.1.right in
    let t3 = t.1.low in
    let t4 = t.1.high in (
      sym f.0 ∙ (t.0 ∙ g.0),
      record {
        left = omega (arith, ints, l1, t1, r2);
        right = omega (arith, ints, r1, t2, l2);
        low = omega (arith, ints, l3, t3, r4);
        high = omega (arith, ints, r3, t4, l4);
      },
    )

-- where the kept shapes that touch are in one group, all that touch are
pub covers_held : (shapes : List Shape) (kept ps qs : List ℕ) → HaveHolders shapes kept ps → ((i j : ℕ) → Tied ps i j → Tied qs i j)
    → ((i j : ℕ) (d : Shape) → Contains kept i → Contains kept j → Touch (get_or shapes i d) (get_or shapes j d) → Tied qs i j) → CoversTouching shapes qs
covers_held shapes kept ps qs holders ties covers i j d hi hj t =
    let a = holders i hi in
    let b = holders j hj in
    let touch = wider (get_or shapes i d) (get_or shapes j d) (get_or shapes a.holder d) (get_or shapes b.holder d) t (a.holds d) (b.holds d) in
    tied_then (ties i a.holder a.tied) (tied_then (covers a.holder b.holder d a.is_kept b.is_kept touch) (tied_back (ties j b.holder b.tied)))
