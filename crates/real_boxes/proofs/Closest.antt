-- The first of near boxes.
use Rattle.std.proofs.Common.{◌≡◌, ◌⊎◌, inl, inr, ℕ, ◌+◌, ◌<◌, ◌≤◌, Bool, true, false, ◌==◌, List, [], ◌∷◌, ◌++◌, length, take, get_or, All, refl, arith, sym, ◌∙◌, ap, subst, if◌then◌else◌}
use Rattle.std.specs.Prelude.{filter}
use Rattle.std.proofs.lemmas.Bool.{cases_eq}
use Rattle.std.proofs.lemmas.List.{get_or-map, length-map, take_all}
use Rattle.std.proofs.lemmas.List.Elements.{All-more}
use Rattle.sym_geom.specs.Rect.{Meet, Near}
use Rattle.sym_geom.specs.declared.rect.Rect.{Rect}
use Rattle.sym_shapes.specs.Shape.{Shape}
use Rattle.sym_near.specs.declared.near.Pair.{Pair}
use Rattle.sym_near.specs.declared.near.Relation.TheVariants as relation
use Rattle.sym_near.specs.Related.{pair, nowhere, shape_at, Relates, AreRelated}
use Rattle.sym_near.proofs.Sweeps.{at_any}
use Rattle.cougar_extract.proofs.Adding.{split_at}
use Rattle.cougar_extract.proofs.Steps.{read_stands}
use Rattle.s2r_cif.proofs.Firsts.{pair_at, rises}
use Rattle.real_table.specs.declared.table.Entry.{Entry}
use Rattle.real_table.specs.declared.table.Entry.TheVariants as entry
use Rattle.real_boxes.specs.declared.boxes.RealBox.{RealBox}
use Rattle.real_boxes.specs.declared.error.ProcessError.{ProcessError}
use Rattle.real_boxes.specs.declared.error.ProcessError.TheVariants as errors
use Rattle.real_boxes.specs.Boxes.{layer_of}
use Rattle.real_boxes.specs.Refused.{on_layer, rect_at, no_rect, AreNear, NoneNear, IsFirstNear, KeepsApart, IsFirstClose, IsEntryRefusal, IsNearRefusal}
use Rattle.real_boxes.specs.Shapes.{shape_of, shapes_of}

module _ (rects : List Rect) (gap : ℕ) (shapes : List Shape) (are : shapes ≡ shapes_of rects) where
  count : length shapes ≡ length rects
  count = ap length are ∙ length-map rects shape_of

  shape_is : (k : ℕ) → k < length rects → shape_at shapes k ≡ shape_of (rect_at rects k)
  shape_is k low = ap (λ (ss : List Shape). shape_at ss k) are ∙ get_or-map shape_of rects k no_rect nowhere low

  pub rect_is : (k : ℕ) → k < length shapes → (shape_at shapes k).rect ≡ rect_at rects k
  rect_is k low = let n = count in ap (λ (s : Shape). s.rect) (shape_is k (omega (arith, n, low)))

  one_metal : (i j : ℕ) → i < length rects → j < length rects → (shape_at shapes i).metal ≡ (shape_at shapes j).metal
  one_metal i j here there = ap (λ (s : Shape). s.metal) (shape_is i here) ∙ sym (ap (λ (s : Shape). s.metal) (shape_is j there))

  -- pairs of near shapes are those of near boxes
  near_of : (i j : ℕ) → Relates shapes (relation.Near gap) i j → AreNear rects gap i j
  near_of i j r =
      let n = count in
      let first = r.first in
      let second = r.second in
      let a : (shape_at shapes i).rect ≡ rect_at rects i = rect_is i first in
      let b : (shape_at shapes j).rect ≡ rect_at rects j = rect_is j second in
      record {
        order = r.is.0;
        there = omega (arith, n, second);
        apart = λ m. r.is.1.0 (subst (λ (x : Rect). Meet x (shape_at shapes j).rect) (sym a) (subst (λ (x : Rect). Meet (rect_at rects i) x) (sym b) m));
        close = subst (λ (x : Rect). Near gap x (rect_at rects j)) a (subst (λ (x : Rect). Near gap (shape_at shapes i).rect x) b r.is.1.1);
      }

  of_near : (i j : ℕ) → AreNear rects gap i j → Relates shapes (relation.Near gap) i j
  of_near i j h =
      let n = count in
      let order = h.order in
      let there = h.there in
      let here : i < length rects = omega (arith, order, there) in
      let a : (shape_at shapes i).rect ≡ rect_at rects i = ap (λ (s : Shape). s.rect) (shape_is i here) in
      let b : (shape_at shapes j).rect ≡ rect_at rects j = ap (λ (s : Shape). s.rect) (shape_is j there) in
      record {
        first = omega (arith, n, here);
        second = omega (arith, n, there);
        metal = one_metal i j here there;
        is = (
          order,
          (
            (λ m. h.apart (subst (λ (x : Rect). Meet x (rect_at rects j)) a (subst (λ (x : Rect). Meet (shape_at shapes i).rect x) b m))),
            subst (λ (x : Rect). Near gap x (shape_at shapes j).rect) (sym a) (subst (λ (x : Rect). Near gap (rect_at rects i) x) (sym b) h.close),
          ),
        );
      }

  module _ (ps : List Pair) (related : AreRelated shapes (relation.Near gap) ps) where
    -- what is known of the first pair
    pub first_related : 0 < length ps → Relates shapes (relation.Near gap) (pair_at ps 0).first (pair_at ps 0).second
    first_related some = related.sound (pair_at ps 0) (0, some, at_any ps 0 (pair_at ps 0) (record { first = 0; second = 0 }) some)

    -- where a near pair stands
    place_of : (i j : ℕ) → AreNear rects gap i j → (k : ℕ) × (k < length ps) × (pair_at ps k ≡ pair i j)
    place_of i j n =
        let found = related.whole i j (of_near i j n) in
        (found.0, found.1, at_any ps found.0 (record { first = 0; second = 0 }) (pair i j) found.1 ∙ found.2)

    pub none_near : length ps ≡ 0 → NoneNear rects gap
    none_near none i j n = let p = place_of i j n in let low = p.1 in absurd (omega (arith, none, low))

    pub first_near : 0 < length ps → (a b : Rect) → a ≡ (shape_at shapes (pair_at ps 0).first).rect → b ≡ (shape_at shapes (pair_at ps 0).second).rect → IsFirstNear rects gap a b
    first_near some a b at_a at_b =
        let r = first_related some in
        record {
          one = (pair_at ps 0).first;
          other = (pair_at ps 0).second;
          near = near_of (pair_at ps 0).first (pair_at ps 0).second r;
          first = λ i j n. least i j (place_of i j n);
          a_is = at_a ∙ rect_is (pair_at ps 0).first r.first;
          b_is = at_b ∙ rect_is (pair_at ps 0).second r.second;
        } where
          least : (i j : ℕ) → (m : ℕ) × (m < length ps) × (pair_at ps m ≡ pair i j) → ((pair_at ps 0).first < i) ⊎ (((pair_at ps 0).first ≡ i) × ((pair_at ps 0).second ≤ j))
          least i j p =
              let first : (pair_at ps p.0).first ≡ i = ap (λ (q : Pair). q.first) p.2 in
              let second : (pair_at ps p.0).second ≡ j = ap (λ (q : Pair). q.second) p.2 in
              elim (cases_eq 0 p.0) [
                | inl e ↦
                    let same_first : (pair_at ps 0).first ≡ i = ap (λ (x : ℕ). (pair_at ps x).first) e ∙ first in
                    let same_second : (pair_at ps 0).second ≡ j = ap (λ (x : ℕ). (pair_at ps x).second) e ∙ second in
                    inr (same_first, omega (arith, same_second))
                | inr other ↦ elim (rises ps related.sorted 0 p.0 (omega (arith, other)) p.1) [
                  | inl less ↦ inl (omega (arith, less, first))
                  | inr b ↦ let eq = b.0 in let less = b.1 in inr (eq ∙ first, omega (arith, less, second))
                ]
              ]

-- boxes on a layer are no more than all
shorter : (p : RealBox → Bool) (boxes : List RealBox) → length (filter p boxes) ≤ length boxes
shorter p [] = omega arith
shorter p (b ∷ rest) = by (p b) (shorter p rest) where
  by : (t : Bool) → length (filter p rest) ≤ length rest → length (if t then b ∷ filter p rest else filter p rest) ≤ length (b ∷ rest)
  by true h = omega (arith, h)
  by false h = omega (arith, h)

pub few_on : (boxes : List RealBox) (layer : ℕ) (shapes : List Shape) → shapes ≡ shapes_of (on_layer layer boxes) → length boxes < 4294967296 → length shapes < 4294967296
few_on boxes layer shapes are few =
    let n : length shapes ≡ length (on_layer layer boxes) = ap length are ∙ length-map (on_layer layer boxes) shape_of in
    let m : length (on_layer layer boxes) ≡ length (filter (λ (b : RealBox). b.layer == layer) boxes) = length-map (filter (λ (b : RealBox). b.layer == layer) boxes) (λ (b : RealBox). b.rect) in
    let most = shorter (λ (b : RealBox). b.layer == layer) boxes in omega (arith, n, m, most, few)

-- ---- lines of the table

pub entry_refused : (all : List Entry) (boxes : List RealBox) (one : Entry) (real : List ℕ) (gap layer : ℕ) (a b : Rect) (e : ProcessError) → one ≡ entry.Space real gap
    → layer ≡ layer_of all real → IsFirstNear (on_layer layer boxes) gap a b → (e ≡ errors.Memory) ⊎ (e ≡ errors.Near real a b) → IsEntryRefusal all boxes one e
entry_refused all boxes one real gap layer a b e is at near h =
    subst (λ (x : Entry). IsEntryRefusal all boxes x e) (sym is)
    (elim h [
      | inl m ↦ subst (λ (y : ProcessError). IsEntryRefusal all boxes (entry.Space real gap) y) (sym m) tt
      | inr n ↦ subst (λ (y : ProcessError). IsEntryRefusal all boxes (entry.Space real gap) y) (sym n)
          (refl, subst (λ (k : ℕ). IsFirstNear (on_layer k boxes) gap a b) at near)
    ])

pub entry_apart : (all : List Entry) (boxes : List RealBox) (one : Entry) (real : List ℕ) (gap layer : ℕ) → one ≡ entry.Space real gap → layer ≡ layer_of all real
    → NoneNear (on_layer layer boxes) gap → KeepsApart all boxes one
entry_apart all boxes one real gap layer is at none =
    subst (λ (x : Entry). KeepsApart all boxes x) (sym is) (subst (λ (k : ℕ). NoneNear (on_layer k boxes) gap) at none)

close_of : (all : List Entry) (boxes : List RealBox) (before behind : List Entry) (one : Entry) (e : ProcessError) → all ≡ before ++ one ∷ behind → All (KeepsApart all boxes) before
    → IsEntryRefusal all boxes one e → IsNearRefusal all boxes e
close_of all boxes before behind one errors.Memory is apart h = tt
close_of all boxes before behind (entry.Space own gap) (errors.Near real a b) is apart h =
    subst (λ (r : List ℕ). IsFirstClose all boxes r a b) h.0
    (record { before = before; gap = gap; behind = behind; entries_are = is; apart = apart; first = h.1 })
close_of all boxes before behind (entry.Rule r) (errors.Near real a b) is apart h = absurd h
close_of all boxes before behind (entry.Metal m own) (errors.Near real a b) is apart h = absurd h
close_of all boxes before behind (entry.Label layer own) (errors.Near real a b) is apart h = absurd h
close_of all boxes before behind entry.Nothing (errors.Near real a b) is apart h = absurd h
close_of all boxes before behind one (errors.UnknownCell model) is apart h = absurd h
close_of all boxes before behind one (errors.NotMappable model) is apart h = absurd h
close_of all boxes before behind one (errors.Limit limit) is apart h = absurd h
close_of all boxes before behind one (errors.Lost word) is apart h = absurd h
close_of all boxes before behind one (errors.OffGrid real rect) is apart h = absurd h
close_of all boxes before behind one (errors.Joined metal a b) is apart h = absurd h
close_of all boxes before behind one (errors.Parted metal a b) is apart h = absurd h

pub close_at : (all : List Entry) (boxes : List RealBox) (k : ℕ) (one : Entry) (e : ProcessError) → k < length all → one ≡ get_or all k one
    → All (KeepsApart all boxes) (take k all) → IsEntryRefusal all boxes one e → IsNearRefusal all boxes e
close_at all boxes k one e low is apart h =
    let r = split_at all k one (read_stands all k one low is) in close_of all boxes (take k all) r.0 one e r.1 apart h

pub apart_next : (all : List Entry) (boxes : List RealBox) (k : ℕ) (one : Entry) → k < length all → one ≡ get_or all k one → All (KeepsApart all boxes) (take k all)
    → KeepsApart all boxes one → All (KeepsApart all boxes) (take (k + 1) all)
apart_next all boxes k one low is apart own =
    All-more (KeepsApart all boxes) all k one low apart (subst (λ (x : Entry). KeepsApart all boxes x) is own)

pub apart_all : (all : List Entry) (boxes : List RealBox) (k : ℕ) → length all ≤ k → All (KeepsApart all boxes) (take k all) → All (KeepsApart all boxes) all
apart_all all boxes k most h = subst (λ (xs : List Entry). All (KeepsApart all boxes) xs) (take_all k all most) h
