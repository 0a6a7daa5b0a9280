-- Entries of all shapes in their bands, sorted: each two related shapes share one.
use Rattle.std.proofs.Common.{◌≡◌, ◌⊎◌, ℕ, ◌+◌, ◌/◌, ◌^◌, ◌<◌, ◌≤◌, pos, ◌+ℤ◌, ◌≤ℤ◌, ◌<ℤ◌, inl, inr, ℤ, true, false, not, Bool, List, [], ◌∷◌, ◌++◌, length, get_or, Option, None, Some, refl, sym, ◌∙◌, ap, subst, arith}
use Rattle.std.specs.List.{Contains}
use Rattle.std.specs.List.Sorted.{IsPermutation}
use Rattle.std.proofs.lemmas.Bool.{cases_lt}
use Rattle.std.proofs.lemmas.Int.{ints, by_lt_z}
use Rattle.std.proofs.lemmas.List.Elements.{Contains-append_left, Contains-push, Contains-push_cases}
use Rattle.std.proofs.lemmas.List.Sorted.{Contains-permutation, All-permutation}
use Rattle.std.proofs.Math.Pow.{shr_mono}
use Rattle.sym_geom.specs.Rect.{IsRect, Meet, Within, Near}
use Rattle.sym_geom.specs.declared.rect.Rect.{Rect}
use Rattle.sym_shapes.specs.Shape.{Shape}
use Rattle.sym_near.specs.declared.bands.Cut.{Cut}
use Rattle.sym_near.specs.declared.near.Relation.TheVariants as relation
use Rattle.sym_near.specs.declared.sweep.Entry.{Entry}
use Rattle.sym_near.specs.Related.{shape_at}
use Rattle.sym_shapes.specs.Bands.{flipped}
use Rattle.sym_near.specs.Sweep.{entry, IsReach, laid, side, shift_of, IsEntered, AddsOf, uncut, cut_for, EntersAll, PlacesWithin, IsSeen, Share, SharesAll, SharesEither, AreBeside, SharesBeside, AreRects, Ordered, AreSwept}

-- ---- entries that are put behind others, one for each band

pub record Climbs (olds news : List Entry) (metal left right place low high : ℕ) : Type 0 where
  pub adds : AddsOf olds news place
  pub each : (b : ℕ) → low ≤ b → b ≤ high → Contains news (entry metal b left right place)

adds_push : (olds news : List Entry) (e : Entry) (place : ℕ) → e.place ≡ place → AddsOf olds news place → AddsOf olds (news ++ e ∷ []) place
adds_push olds news e place own a = record {
  kept = λ x h. Contains-append_left news (e ∷ []) x (a.kept x h);
  only = λ x h other. elim (Contains-push_cases news e x h) [
    | inl before ↦ a.only x before other
    | inr is ↦ absurd (other (ap (λ (y : Entry). y.place) (sym is) ∙ own))
  ];
}

pub climbs_first : (olds : List Entry) (metal left right place low : ℕ) → Climbs olds (olds ++ entry metal low left right place ∷ []) metal left right place low low
climbs_first olds metal left right place low = record {
  adds = adds_push olds olds (entry metal low left right place) place refl (record { kept = λ e h. h; only = λ e h other. h });
  each = λ b from upto. let e : low ≡ b = omega arith in
      subst (λ (k : ℕ). Contains (olds ++ entry metal low left right place ∷ []) (entry metal k left right place)) e (Contains-push olds (entry metal low left right place));
}

pub climbs : (olds news : List Entry) (metal left right place low high : ℕ) → Climbs olds news metal left right place low high
    → Climbs olds (news ++ entry metal (high + 1) left right place ∷ []) metal left right place low (high + 1)
climbs olds news metal left right place low high c =
    let last : Entry = entry metal (high + 1) left right place in
    record {
      adds = adds_push olds news last place refl c.adds;
      each = λ b from upto. elim (cases_lt high b) [
        | inl above ↦ let e : high + 1 ≡ b = omega arith in subst (λ (k : ℕ). Contains (news ++ last ∷ []) (entry metal k left right place)) e (Contains-push news last)
        | inr within ↦ Contains-append_left news (last ∷ []) (entry metal b left right place) (c.each b from within)
      ];
    }

-- once the last band is reached, the shape is entered
pub entered : (turned : Bool) (cut : Cut) (gap : ℕ) (s : Shape) (r : Rect) (metal place left right low high shift band : ℕ) (olds news : List Entry)
    → metal ≡ s.metal → r ≡ laid (side turned cut) s.rect → shift ≡ shift_of turned cut → IsReach gap r.x1 r.x2 left right → IsReach gap r.y1 r.y2 low high
    → Climbs olds news metal left right place (low / 2 ^ shift) band → low / 2 ^ shift ≤ band → high / 2 ^ shift ≤ band → IsEntered turned cut gap s place news
entered turned cut gap s r metal place left right low high shift band olds news metal_is r_is shift_is across along c above top =
    let moved : (b : ℕ) → Contains news (entry metal b left right place) → Contains news (entry s.metal b left right place) =
    λ b h. subst (λ (x : ℕ). Contains news (entry x b left right place)) metal_is h in
    record {
      left = left;
      right = right;
      low = low;
      high = high;
      across = subst (λ (x : Rect). IsReach gap x.x1 x.x2 left right) r_is across;
      along = subst (λ (x : Rect). IsReach gap x.y1 x.y2 low high) r_is along;
      first = moved (low / 2 ^ shift_of turned cut)
          (subst (λ (x : ℕ). Contains news (entry metal (low / 2 ^ x) left right place)) shift_is (c.each (low / 2 ^ shift) (omega arith) above));
      each = λ b from upto.
          let from_low : low / 2 ^ shift ≤ b = subst (λ (x : ℕ). low / 2 ^ x ≤ b) (sym shift_is) from in
          let to_high : b ≤ high / 2 ^ shift = subst (λ (x : ℕ). b ≤ high / 2 ^ x) (sym shift_is) upto in
          moved b (c.each b from_low (omega (arith, to_high, top)));
    }

-- what was entered stays entered
pub kept_entered : (turned : Bool) (cut : Cut) (gap : ℕ) (s : Shape) (place other : ℕ) (olds news : List Entry) → AddsOf olds news other → IsEntered turned cut gap s place olds
    → IsEntered turned cut gap s place news
kept_entered turned cut gap s place other olds news adds e = record {
  left = e.left;
  right = e.right;
  low = e.low;
  high = e.high;
  across = e.across;
  along = e.along;
  first = adds.kept (entry s.metal (e.low / 2 ^ shift_of turned cut) e.left e.right place) e.first;
  each = λ b from upto. adds.kept (entry s.metal b e.left e.right place) (e.each b from upto);
}

-- where the new place is within, all places are
pub places_on : (n place : ℕ) (olds news : List Entry) → AddsOf olds news place → place < n → ((e : Entry) → Contains olds e → e.place < n)
    → (e : Entry) → Contains news e → e.place < n
places_on n place olds news adds within before e h = elim (cases_lt e.place n) [
  | inl lt ↦ lt
  | inr ge ↦ before e (adds.only e h (λ same. omega (arith, same, ge, within)))
]

-- ---- reaches of related shapes overlap

axis_near : (gap : ℕ) (a1 a2 b1 b2 : ℤ) (la ha lb hb : ℕ) → IsReach gap a1 a2 la ha → IsReach gap b1 b2 lb hb
    → a1 <ℤ (b2 +ℤ pos gap) → b1 <ℤ (a2 +ℤ pos gap) → (la ≤ hb) × (lb ≤ ha)
axis_near gap a1 a2 b1 b2 la ha lb hb a b one other =
    let p = a.from_a in
    let q = b.from_a in (
      b.to_b la a.fits (omega (arith, ints, p, one)),
      a.to_b lb b.fits (omega (arith, ints, q, other)),
    )

axis_within : (gap : ℕ) (a1 a2 b1 b2 : ℤ) (la ha lb hb : ℕ) → IsReach gap a1 a2 la ha → IsReach gap b1 b2 lb hb
    → b1 ≤ℤ a1 → a2 ≤ℤ b2 → (la ≤ hb) × (lb ≤ ha)
axis_within gap a1 a2 b1 b2 la ha lb hb a b one other =
    let p = a.from_b in
    let q = b.from_a in (
      b.to_b la a.fits (omega (arith, ints, p, other)),
      a.to_a lb b.fits (omega (arith, ints, q, one)),
    )

near_laid : (upright : Bool) (gap : ℕ) (a b : Rect) → Near gap a b → Near gap (laid upright a) (laid upright b)
near_laid true gap a b n = record { left = n.low; right = n.high; low = n.left; high = n.right }
near_laid false gap a b n = n

within_laid : (upright : Bool) (a b : Rect) → Within a b → Within (laid upright a) (laid upright b)
within_laid true a b w = record { left = w.low; right = w.high; low = w.left; high = w.right }
within_laid false a b w = w

-- where one interval ends before another begins, its entry begins and ends before that of the other, the gap left out
axis_beside : (gap : ℕ) (a1 a2 b1 b2 : ℤ) (la ha lb hb : ℕ) → IsReach gap a1 a2 la ha → IsReach gap b1 b2 lb hb
    → a1 ≤ℤ a2 → b1 ≤ℤ b2 → a2 <ℤ b1 → (la < lb) × (ha < lb + gap)
axis_beside gap a1 a2 b1 b2 la ha lb hb a b wide other beside =
    let p = a.from_b in
    let begins : (b1 +ℤ pos (2 ^ 63)) ≤ℤ pos lb = elim b.least [ inl l ↦ l | inr l ↦ omega (arith, ints, l, other) ] in
    let ends : pos ha ≤ℤ (a2 +ℤ pos (2 ^ 63 + gap)) = elim a.most [ inl l ↦ omega (arith, ints, l, wide) | inr l ↦ l ] in (
      omega (arith, ints, p, begins, beside),
      omega (arith, ints, ends, begins, beside),
    )

rect_laid : (upright : Bool) (a : Rect) → IsRect a → IsRect (laid upright a)
rect_laid true a r = record { wide = r.tall; tall = r.wide }
rect_laid false a r = r

-- the entry of one shape stands in the band of the other's low edge, or the other way round
module _ (turned : Bool) (xs : List Entry) (cut : Cut) (gap : ℕ) (a b : Shape) (i j : ℕ) (e : IsEntered turned cut gap a i xs) (f : IsEntered turned cut gap b j xs) (metal : a.metal ≡ b.metal) where
  -- the entries of both begin and end as these
  abbrev Sees : Option ℕ → Type 0
  Sees beside = (k m : ℕ) → IsSeen beside (entry a.metal k e.left e.right i) (entry b.metal m f.left f.right j)

  share_in : (beside : Option ℕ) → Sees beside → (k : ℕ) → e.left ≤ f.right → f.left ≤ e.right → Contains xs (entry a.metal k e.left e.right i) → Contains xs (entry b.metal k f.left f.right j) → Share beside xs i j
  share_in beside sees k one other first second = record {
    seen = sees k k;
    one = entry a.metal k e.left e.right i;
    other = entry b.metal k f.left f.right j;
    one_there = first;
    other_there = second;
    one_is = refl;
    other_is = refl;
    one_in = record { metal = sym metal; band = refl; left = other };
    other_in = record { metal = metal; band = refl; left = one };
  }

  share_bands : (beside : Option ℕ) → Sees beside → (e.left ≤ f.right) × (f.left ≤ e.right) → (e.low ≤ f.high) × (f.low ≤ e.high) → Share beside xs i j
  share_bands beside sees across along =
      let n : ℕ = shift_of turned cut in
      let a_in : f.low / 2 ^ n ≤ e.high / 2 ^ n = shr_mono n along.1 in
      let b_in : e.low / 2 ^ n ≤ f.high / 2 ^ n = shr_mono n along.0 in
      elim (cases_lt (e.low / 2 ^ n) (f.low / 2 ^ n)) [
        | inl lt ↦ share_in beside sees (f.low / 2 ^ n) across.0 across.1 (e.each (f.low / 2 ^ n) (omega arith) a_in) f.first
        | inr ge ↦ share_in beside sees (e.low / 2 ^ n) across.0 across.1 e.first (f.each (e.low / 2 ^ n) ge b_in)
      ]

  share_near : (beside : Option ℕ) → Sees beside → Near gap a.rect b.rect → Share beside xs i j
  share_near beside sees n =
      let m = near_laid (side turned cut) gap a.rect b.rect n in
      share_bands beside sees
      (axis_near gap _ _ _ _ e.left e.right f.left f.right e.across f.across m.left m.right)
      (axis_near gap _ _ _ _ e.low e.high f.low f.high e.along f.along m.low m.high)

  sees_beside : IsRect a.rect → IsRect b.rect → AreBeside (laid (side turned cut) a.rect) (laid (side turned cut) b.rect) → Sees (Some gap)
  sees_beside p q beside k m =
      let one = rect_laid (side turned cut) a.rect p in
      let other = rect_laid (side turned cut) b.rect q in
      elim beside [
        | inl l ↦ inl (axis_beside gap _ _ _ _ e.left e.right f.left f.right e.across f.across one.wide other.wide l)
        | inr r ↦ inr (axis_beside gap _ _ _ _ f.left f.right e.left e.right f.across e.across other.wide one.wide r)
      ]

  share_within : Within a.rect b.rect → Share None xs i j
  share_within w =
      let m = within_laid (side turned cut) a.rect b.rect w in
      share_bands None (λ k n. tt)
      (axis_within gap _ _ _ _ e.left e.right f.left f.right e.across f.across m.left m.right)
      (axis_within gap _ _ _ _ e.low e.high f.low f.high e.along f.along m.low m.high)

share_moved : (beside : Option ℕ) (xs ys : List Entry) (i j : ℕ) → IsPermutation xs ys → Share beside xs i j → Share beside ys i j
share_moved beside xs ys i j w s = record {
  seen = s.seen;
  one = s.one;
  other = s.other;
  one_there = Contains-permutation xs ys s.one w s.one_there;
  other_there = Contains-permutation xs ys s.other w s.other_there;
  one_is = s.one_is;
  other_is = s.other_is;
  one_in = s.one_in;
  other_in = s.other_in;
}

module _ (turned : Bool) (all : List Shape) (cuts : List Cut) (gap : ℕ) (xs : List Entry) (each : EntersAll turned all cuts gap xs) where
  -- the entries of both, as the metal of the first is cut
  alike : (i j : ℕ) → j < length all → (shape_at all i).metal ≡ (shape_at all j).metal → IsEntered turned (cut_for cuts (shape_at all i)) gap (shape_at all j) j xs
  alike i j low metal =
      let same : cut_for cuts (shape_at all j) ≡ cut_for cuts (shape_at all i) = ap (λ (k : ℕ). get_or cuts k uncut) (sym metal) in
      subst (λ (x : Cut). IsEntered turned x gap (shape_at all j) j xs) same (each j _ low)

  shares_near : SharesAll all (relation.Near gap) xs
  shares_near i j h =
      share_near turned xs (cut_for cuts (shape_at all i)) gap (shape_at all i) (shape_at all j) i j (each i _ h.first) (alike i j h.second h.metal) h.metal None (λ k n. tt) h.is.1.1

  shares_beside : SharesBeside turned all cuts gap xs
  shares_beside i j h p q beside =
      let cut = cut_for cuts (shape_at all i) in
      let e = each i _ h.first in
      let f = alike i j h.second h.metal in
      share_near turned xs cut gap (shape_at all i) (shape_at all j) i j e f h.metal (Some gap)
      (sees_beside turned xs cut gap (shape_at all i) (shape_at all j) i j e f h.metal p q beside) h.is.1.1

  shares_within : SharesAll all relation.Held xs
  shares_within i j h =
      share_within turned xs (cut_for cuts (shape_at all i)) gap (shape_at all i) (shape_at all j) i j (each i _ h.first) (alike i j h.second h.metal) h.metal h.is.1.0

  pub swept : (ys : List Entry) → PlacesWithin all xs → IsPermutation xs ys → Ordered ys → AreSwept turned all cuts gap ys
  swept ys places w ordered = record {
    places = All-permutation (λ (e : Entry). e.place < length all) xs ys w places;
    ordered = ordered;
    near_share = λ i j h. share_moved None xs ys i j w (shares_near i j h);
    within_share = λ i j h. share_moved None xs ys i j w (shares_within i j h);
    beside_share = λ i j h p q b. share_moved (Some gap) xs ys i j w (shares_beside i j h p q b);
  }

-- ---- near shapes stand beside one another in the bands or in the turned ones

gap_of : (a b : Rect) → (Meet a b → ⊥) → AreBeside a b ⊎ AreBeside (flipped a) (flipped b)
gap_of a b apart =
    by_lt_z b.x2 a.x1 (λ lt. inl (inr lt)) (λ left.
    by_lt_z a.x2 b.x1 (λ lt. inl (inl lt)) (λ right.
    by_lt_z b.y2 a.y1 (λ lt. inr (inr lt)) (λ low.
    by_lt_z a.y2 b.y1 (λ lt. inr (inl lt)) (λ high. absurd (apart (record { left = left; right = right; low = low; high = high }))))))

both_sides : (upright : Bool) (a b : Rect) → AreBeside a b ⊎ AreBeside (flipped a) (flipped b) → AreBeside (laid upright a) (laid upright b) ⊎ AreBeside (laid (not upright) a) (laid (not upright) b)
both_sides true a b (inl h) = inr h
both_sides true a b (inr h) = inl h
both_sides false a b h = h

pub either_way : (all : List Shape) (cuts : List Cut) (gap : ℕ) (xs ys : List Entry) → AreRects all → AreSwept false all cuts gap xs → AreSwept true all cuts gap ys
    → SharesEither all (relation.Near gap) (Some gap) xs ys
either_way all cuts gap xs ys rects one other i j h =
    let a = (shape_at all i).rect in
    let b = (shape_at all j).rect in
    elim (both_sides (cut_for cuts (shape_at all i)).upright a b (gap_of a b h.is.1.0)) [
      | inl beside ↦ inl (one.beside_share i j h (rects i _ h.first) (rects j _ h.second) beside)
      | inr beside ↦ inr (other.beside_share i j h (rects i _ h.first) (rects j _ h.second) beside)
    ]
