-- The pairs of shapes that are too near, among those that are near; the drawn shapes that are too narrow.
use Rattle.std.proofs.Common.{◌≡◌, ℕ, ◌+◌, ◌<◌, List, [], ◌∷◌, ◌++◌, map, length, take, get_or, refl, sym, ◌∙◌, ap, subst, append_assoc, append-nil, arith}
use Rattle.std.specs.List.{Contains}
use Rattle.std.proofs.lemmas.List.{take_more}
use Rattle.vlsi_base.specs.Member.{In, Picks, done}
use Rattle.cell_model.proofs.Members.{In-at, place-In}
use Rattle.sym_shapes.specs.Shape.{Shape}
use Rattle.net_meaning.specs.Breaches.{IsExcused}
use Rattle.sym_near.specs.declared.near.Relation.TheVariants as relation
use Rattle.sym_near.specs.declared.near.Pair.{Pair}
use Rattle.sym_near.proofs.Sweeps.{at_any}
use Rattle.sym_near.specs.Related.{nowhere, shape_at, Relates, AreRelated}
use Rattle.druc_rules.specs.declared.breach.Breach.{Breach as Found}
use Rattle.druc_rules.specs.declared.breach.Breach.TheVariants as breach
use Rattle.druc_rules.specs.Breaches.{IsNarrowBy, AreTooNearBy, AreWidths, AddsGaps}
use Rattle.druc_rules.proofs.Picked.{picks_push, picks_skip, picks_map, picks_both, picks_same}
use Rattle.druc_rules.proofs.Places.{rising_so, picks_sorted, keys_from, key_bounds, key_there, keys_rising, both_at, all_pairs}

map_push : {A B : Type 0} (f : A → B) (xs : List A) (x : A) → map f (xs ++ x ∷ []) ≡ map f xs ++ f x ∷ []
map_push f [] x = refl
map_push f (y ∷ ys) x = ap (λ zs. f y ∷ zs) (map_push f ys x)

map_twice : {A B C : Type 0} (f : B → C) (g : A → B) (xs : List A) → map f (map g xs) ≡ map (λ x. f (g x)) xs
map_twice f g [] = refl
map_twice f g (x ∷ xs) = ap (λ zs. f (g x) ∷ zs) (map_twice f g xs)

In-of : {A : Type 0} (xs : List A) (x : A) → Contains xs x → In x xs
In-of xs x h = subst (λ y. In y xs) h.2 (In-at xs h.0 x h.1)

there-of : {A : Type 0} (xs : List A) (x : A) → In x xs → Contains xs x
there-of xs x h = let k = place-In x xs h in (k.0, k.1, k.2 x)

-- ---- widths

pub widths_none : (least : ℕ) (found : List Found) → found ≡ [] → AreWidths least [] found
widths_none least found is = record { narrow = []; picked = done; are = is }

pub widths_more : (least : ℕ) (xs : List Shape) (s : Shape) (olds news : List Found) → AreWidths least xs olds → IsNarrowBy least s → news ≡ olds ++ breach.Width s.metal s.rect ∷ []
    → AreWidths least (xs ++ s ∷ []) news
widths_more least xs s olds news w own is = record {
  narrow = w.narrow ++ s ∷ [];
  picked = picks_push (IsNarrowBy least) xs w.narrow s w.picked own;
  are = is ∙ ap (λ (fs : List Found). fs ++ breach.Width s.metal s.rect ∷ []) w.are ∙ sym (map_push (λ (x : Shape). breach.Width x.metal x.rect) w.narrow s);
}

pub widths_skip : (least : ℕ) (xs : List Shape) (s : Shape) (found : List Found) → AreWidths least xs found → (IsNarrowBy least s → ⊥) → AreWidths least (xs ++ s ∷ []) found
widths_skip least xs s found w own = record { narrow = w.narrow; picked = picks_skip (IsNarrowBy least) xs w.narrow s w.picked own; are = w.are }

-- ---- gaps

abbrev pub Unexcused : List Shape → Pair → Type 0
Unexcused all p = IsExcused all (shape_at all p.first) (shape_at all p.second) → ⊥

abbrev pub gap_at : List Shape → Pair → Found
gap_at all p = breach.Gap (shape_at all p.first).metal (shape_at all p.first).rect (shape_at all p.second).rect

-- the near pairs so far that nothing excuses are put behind what was there
pub record AddsChosen (all : List Shape) (near : List Pair) (olds news : List Found) : Type 0 where
  pub chosen : List Pair
  pub picked : Picks (Unexcused all) near chosen
  pub are : news ≡ olds ++ map (gap_at all) chosen

pub chosen_none : (all : List Shape) (olds news : List Found) → news ≡ olds ++ [] → AddsChosen all [] olds news
chosen_none all olds news is = record { chosen = []; picked = done; are = is }

pub chosen_more : (all : List Shape) (near : List Pair) (p : Pair) (olds mids news : List Found) → AddsChosen all near olds mids → Unexcused all p → news ≡ mids ++ gap_at all p ∷ []
    → AddsChosen all (near ++ p ∷ []) olds news
chosen_more all near p olds mids news a own is = record {
  chosen = a.chosen ++ p ∷ [];
  picked = picks_push (Unexcused all) near a.chosen p a.picked own;
  are = is ∙ ap (λ (fs : List Found). fs ++ gap_at all p ∷ []) a.are ∙ append_assoc olds (map (gap_at all) a.chosen) (gap_at all p ∷ [])
      ∙ ap (λ (fs : List Found). olds ++ fs) (sym (map_push (gap_at all) a.chosen p));
}

pub chosen_skip : (all : List Shape) (near : List Pair) (p : Pair) (olds news : List Found) → AddsChosen all near olds news → (Unexcused all p → ⊥) → AddsChosen all (near ++ p ∷ []) olds news
chosen_skip all near p olds news a own = record { chosen = a.chosen; picked = picks_skip (Unexcused all) near a.chosen p a.picked own; are = a.are }

module _ (all : List Shape) (least : ℕ) (near : List Pair) (are : AreRelated all (relation.Near least) near) where
  abbrev IsNearPair : Pair → Type 0
  IsNearPair p = Relates all (relation.Near least) p.first p.second

  near_picked : Picks IsNearPair (keys_from 0 all) near
  near_picked =
      picks_sorted IsNearPair (keys_from 0 all) near (keys_rising 0 all) (rising_so near are.sorted)
      (λ p i.
      let r = are.sound p (there-of near p i) in
      let low = r.second in
      (key_there 0 all p.first p.second (omega arith) r.is.0 (omega (arith, low)), r))
      (λ p i r. In-of near p (are.whole p.first p.second r))

  too_near : (p : Pair) → IsNearPair p × Unexcused all p → AreTooNearBy least all (shape_at all p.first) (shape_at all p.second)
  too_near p h = record { metal = h.0.metal; apart = h.0.is.1.0; near = h.0.is.1.1; unexcused = h.1 }

  near_again : (p : Pair) → In p (keys_from 0 all) → AreTooNearBy least all (shape_at all p.first) (shape_at all p.second) → IsNearPair p × Unexcused all p
  near_again p i h =
      let b = key_bounds 0 all p i in
      let low = b.1 in
      let high = b.2 in
      (record { first = omega (arith, low, high); second = omega (arith, high); metal = h.metal; is = (b.1, (h.apart, h.near)) }, h.unexcused)

  -- the pairs that are too near are those of the near ones that nothing excuses
  pub gaps_are : (olds news : List Found) → AddsChosen all near olds news → AddsGaps least all olds news
  gaps_are olds news a =
      let both : Picks (λ p. IsNearPair p × Unexcused all p) (keys_from 0 all) a.chosen =
      picks_both IsNearPair (Unexcused all) (keys_from 0 all) near a.chosen near_picked a.picked in
      let at_places : Picks (λ p. AreTooNearBy least all (shape_at all p.first) (shape_at all p.second)) (keys_from 0 all) a.chosen =
      picks_same (λ p. IsNearPair p × Unexcused all p) (λ p. AreTooNearBy least all (shape_at all p.first) (shape_at all p.second)) (keys_from 0 all) a.chosen
      (λ p i h. too_near p h) near_again both in
      let P : Shape × Shape → Type 0 = λ q. AreTooNearBy least all q.0 q.1 in
      record {
        near = map (both_at all nowhere) a.chosen;
        picked = subst (λ (qs : List (Shape × Shape)). Picks P qs (map (both_at all nowhere) a.chosen)) (all_pairs all nowhere)
            (picks_map (both_at all nowhere) P (keys_from 0 all) a.chosen at_places);
        are = a.are ∙ ap (λ (fs : List Found). olds ++ fs) (sym (map_twice (λ (q : Shape × Shape). breach.Gap q.0.metal q.0.rect q.1.rect) (both_at all nowhere) a.chosen));
      }

-- where no two are near, nothing is added
pub gaps_none : (all : List Shape) (least : ℕ) (near : List Pair) (found : List Found) → AreRelated all (relation.Near least) near → near ≡ [] → AddsGaps least all found found
gaps_none all least near found are none =
    gaps_are all least near are found found (subst (λ (ps : List Pair). AddsChosen all ps found found) (sym none) (chosen_none all found found (sym (append-nil found))))

-- ---- loops

pub taken_next : {A : Type 0} (xs : List A) (k : ℕ) (x : A) → k < length xs → x ≡ get_or xs k x → take (k + 1) xs ≡ take k xs ++ x ∷ []
taken_next xs k x low is = take_more xs k x low ∙ ap (λ y. take k xs ++ y ∷ []) (sym is)

abbrev pub pair_at : List Pair → ℕ → Pair
pair_at near k = get_or near k (record { first = 0; second = 0 })

-- what is known of the pair at a place
pub related_at : (all : List Shape) (least : ℕ) (near : List Pair) (k : ℕ) → AreRelated all (relation.Near least) near → k < length near
    → Relates all (relation.Near least) (pair_at near k).first (pair_at near k).second
related_at all least near k are low = are.sound (pair_at near k) (k, low, at_any near k (pair_at near k) (record { first = 0; second = 0 }) low)
