-- Boxes that meet.
use Rattle.std.proofs.Common.{◌≡◌, ◌⊎◌, inl, inr, ℕ, ◌<◌, List, length, map, arith, sym, ◌∙◌, ap, subst}
use Rattle.std.specs.Prelude.{◌≢◌}
use Rattle.std.proofs.lemmas.Bool.{cases_lt}
use Rattle.std.proofs.lemmas.Int.{ints, by_lt_z}
use Rattle.std.proofs.lemmas.List.{get_or-map}
use Rattle.sym_geom.specs.Rect.{Meet}
use Rattle.sym_geom.specs.declared.rect.Rect.{Rect}
use Rattle.sym_shapes.specs.Shape.{Shape}
use Rattle.sym_near.specs.Related.{nowhere, shape_at}
use Rattle.s2r_cif.specs.declared.table.RealTable.{RealTable}
use Rattle.s2r_cif.specs.declared.layout.RealBox.{RealBox}
use Rattle.s2r_cif.specs.Real.{grow_of, real_rect, box_of, no_box, box_at, MeetAsShapes, AreClose}
use Rattle.s2r_cif.specs.Refused.{AreNear, NoneNear}
use Rattle.s2r_cif.proofs.Scales.{scale_keeps}

-- ---- two rectangles

pub meet_other : (a b : Rect) → Meet a b → Meet b a
meet_other a b h = record { left = h.right; right = h.left; low = h.high; high = h.low }

pub meet_cases : (a b : Rect) → Meet a b ⊎ (Meet a b → ⊥)
meet_cases a b =
    by_lt_z b.x2 a.x1 (λ lt. inr (λ m. let l = m.left in omega (arith, ints, lt, l))) (λ left.
    by_lt_z a.x2 b.x1 (λ lt. inr (λ m. let l = m.right in omega (arith, ints, lt, l))) (λ right.
    by_lt_z b.y2 a.y1 (λ lt. inr (λ m. let l = m.low in omega (arith, ints, lt, l))) (λ low.
    by_lt_z a.y2 b.y1 (λ lt. inr (λ m. let l = m.high in omega (arith, ints, lt, l))) (λ high.
    inl (record { left = left; right = right; low = low; high = high })))))

module _ (s g : ℕ) (a b : Rect) where
  close_other : AreClose s g a b → AreClose s g b a
  close_other h = record { left = h.right; right = h.left; low = h.high; high = h.low }

  -- boxes meet exactly where the rectangles are close
  close_meets : AreClose s g a b → Meet (real_rect s g a) (real_rect s g b)
  close_meets h =
      let l = h.left in
      let r = h.right in
      let d = h.low in
      let u = h.high in
      record { left = omega (arith, ints, l); right = omega (arith, ints, r); low = omega (arith, ints, d); high = omega (arith, ints, u) }

  meets_close : Meet (real_rect s g a) (real_rect s g b) → AreClose s g a b
  meets_close h =
      let l = h.left in
      let r = h.right in
      let d = h.low in
      let u = h.high in
      record { left = omega (arith, ints, l); right = omega (arith, ints, r); low = omega (arith, ints, d); high = omega (arith, ints, u) }

  -- what touches is close
  touch_close : Meet a b → AreClose s g a b
  touch_close h =
      let l = scale_keeps s a.x1 b.x2 h.left in
      let r = scale_keeps s b.x1 a.x2 h.right in
      let d = scale_keeps s a.y1 b.y2 h.low in
      let u = scale_keeps s b.y1 a.y2 h.high in
      record { left = omega (arith, ints, l); right = omega (arith, ints, r); low = omega (arith, ints, d); high = omega (arith, ints, u) }

-- ---- the boxes of shapes of which none are near

module _ (t : RealTable) (all : List Shape) (apart : NoneNear t all) where
  abbrev rect : ℕ → Rect
  rect k = (shape_at all k).rect

  abbrev grow : ℕ → ℕ
  grow k = grow_of t (shape_at all k).metal

  close_touch : (i j : ℕ) → i < j → j < length all → (shape_at all i).metal ≡ (shape_at all j).metal → AreClose t.scale (grow i) (rect i) (rect j) → Meet (rect i) (rect j)
  close_touch i j order there metal close = elim (meet_cases (rect i) (rect j)) [
    | inl m ↦ m
    | inr n ↦ absurd (apart i j (record { order = order; there = there; metal = metal; apart = n; close = close }))
  ]

  same_grow : (i j : ℕ) → (shape_at all i).metal ≡ (shape_at all j).metal → grow i ≡ grow j
  same_grow i j metal = ap (grow_of t) metal

  close_any : (i j : ℕ) → i < length all → j < length all → i ≢ j → (shape_at all i).metal ≡ (shape_at all j).metal → AreClose t.scale (grow i) (rect i) (rect j) → Meet (rect i) (rect j)
  close_any i j here there differ metal close = elim (cases_lt i j) [
    | inl lt ↦ close_touch i j lt there metal close
    | inr ge ↦
        let order : j < i = let n : i ≡ j → ⊥ = differ in omega (arith, ge, n) in
        let other : AreClose t.scale (grow j) (rect j) (rect i) =
        close_other t.scale (grow j) (rect i) (rect j) (subst (λ (g : ℕ). AreClose t.scale g (rect i) (rect j)) (same_grow i j metal) close) in
        meet_other (rect j) (rect i) (close_touch j i order here (sym metal) other)
  ]

  module _ (boxes : List RealBox) (are : boxes ≡ map (box_of t) all) where
    box_is : (k : ℕ) → k < length all → (box_at boxes k).rect ≡ real_rect t.scale (grow k) (rect k)
    box_is k low =
        ap (λ (bs : List RealBox). (box_at bs k).rect) are ∙ ap (λ (b : RealBox). b.rect) (get_or-map (box_of t) all k nowhere no_box low)

    pub meet_as_shapes : MeetAsShapes all boxes
    meet_as_shapes i j here there differ metal =
        let one = box_is i here in
        let other : (box_at boxes j).rect ≡ real_rect t.scale (grow i) (rect j) =
        box_is j there ∙ ap (λ (g : ℕ). real_rect t.scale g (rect j)) (sym (same_grow i j metal)) in (
          λ h.
              let real : Meet (real_rect t.scale (grow i) (rect i)) (real_rect t.scale (grow i) (rect j)) =
              subst (λ (r : Rect). Meet (real_rect t.scale (grow i) (rect i)) r) other (subst (λ (r : Rect). Meet r (box_at boxes j).rect) one h) in
              close_any i j here there differ metal (meets_close t.scale (grow i) (rect i) (rect j) real),
          λ h.
              let real : Meet (real_rect t.scale (grow i) (rect i)) (real_rect t.scale (grow i) (rect j)) =
              close_meets t.scale (grow i) (rect i) (rect j) (touch_close t.scale (grow i) (rect i) (rect j) h) in
              subst (λ (r : Rect). Meet r (box_at boxes j).rect) (sym one) (subst (λ (r : Rect). Meet (real_rect t.scale (grow i) (rect i)) r) (sym other) real),
        )
