-- What the stages come to together.
use Rattle.std.proofs.Common.{◌≡◌, inl, inr, ◌<◌, List, length, None, ◌∙◌, ap, subst, arith}
use Rattle.std.proofs.lemmas.List.{length-map}
use Rattle.sym_geom.specs.declared.item.Item.{Item}
use Rattle.sym_shapes.specs.Shape.{Shape}
use Rattle.cell_model.specs.Library.{Library}
use Rattle.cell_model.specs.Layout.{shapes}
use Rattle.s2r_cif.specs.Refused.{AreDrawn}
use Rattle.real_table.specs.declared.table.ProcessTable.{ProcessTable}
use Rattle.real_boxes.specs.declared.mark.Mark.{Mark}
use Rattle.real_boxes.specs.declared.boxes.RealBox.{RealBox}
use Rattle.real_boxes.specs.declared.error.ProcessError.{ProcessError}
use Rattle.real_boxes.specs.declared.error.ProcessError.TheVariants as errors
use Rattle.real_boxes.specs.Marks.{marks}
use Rattle.real_boxes.specs.Boxes.{boxes_of}
use Rattle.real_boxes.specs.Metals.{bare, metal_shapes, metal_boxes, MeetAsShapes, NoneUnlike, IsFirstJoined, IsFirstParted, IsMetalRefusal}
use Rattle.real_boxes.specs.Refused.{first_lost, layout_boxes, layout_shapes, layout_metals, CanBeMade, AreGood, IsLostRefusal, IsFitRefusal, IsNearRefusal, first_unfit, IsBoxRefusal, IsDrawRefusal, IsMakeRefusal, IsProcessRefusal}
use Rattle.real_boxes.proofs.Shown.{shapes_same}

pub draw_refusal : (t : ProcessTable) (items : List Item) (l : Library) (e : ProcessError) → IsDrawRefusal items l e → IsProcessRefusal t items l e
draw_refusal t items l errors.Memory h = tt
draw_refusal t items l (errors.UnknownCell model) h = h
draw_refusal t items l (errors.NotMappable model) h = h
draw_refusal t items l (errors.Limit limit) h = inl h
draw_refusal t items l (errors.Lost word) h = absurd h
draw_refusal t items l (errors.Joined metal a b) h = absurd h
draw_refusal t items l (errors.Parted metal a b) h = absurd h
draw_refusal t items l (errors.OffGrid real rect) h = absurd h
draw_refusal t items l (errors.Near real a b) h = absurd h

-- ---- boxes

pub fit_refusal : (t : ProcessTable) (boxes : List RealBox) (e : ProcessError) → length boxes < 4294967296 → IsFitRefusal t.entries t.head.grid boxes e → IsBoxRefusal t boxes e
fit_refusal t boxes errors.Memory few h = tt
fit_refusal t boxes (errors.OffGrid real rect) few h = (few, h)
fit_refusal t boxes (errors.UnknownCell model) few h = absurd h
fit_refusal t boxes (errors.NotMappable model) few h = absurd h
fit_refusal t boxes (errors.Limit limit) few h = absurd h
fit_refusal t boxes (errors.Lost word) few h = absurd h
fit_refusal t boxes (errors.Near real a b) few h = absurd h
fit_refusal t boxes (errors.Joined metal a b) few h = absurd h
fit_refusal t boxes (errors.Parted metal a b) few h = absurd h

pub near_refusal : (t : ProcessTable) (boxes : List RealBox) (e : ProcessError) → length boxes < 4294967296 → first_unfit t.head.grid boxes ≡ None
    → IsNearRefusal t.entries boxes e → IsBoxRefusal t boxes e
near_refusal t boxes errors.Memory few fit h = tt
near_refusal t boxes (errors.Near real a b) few fit h = (few, fit, h)
near_refusal t boxes (errors.UnknownCell model) few fit h = absurd h
near_refusal t boxes (errors.NotMappable model) few fit h = absurd h
near_refusal t boxes (errors.Limit limit) few fit h = absurd h
near_refusal t boxes (errors.Lost word) few fit h = absurd h
near_refusal t boxes (errors.OffGrid real rect) few fit h = absurd h
near_refusal t boxes (errors.Joined metal a b) few fit h = absurd h
near_refusal t boxes (errors.Parted metal a b) few fit h = absurd h

-- ---- what is drawn

pub lost_refusal : (t : ProcessTable) (all : List Mark) (e : ProcessError) → IsLostRefusal t all e → IsMakeRefusal t all e
lost_refusal t all errors.Memory h = tt
lost_refusal t all (errors.Lost word) h = h
lost_refusal t all (errors.UnknownCell model) h = absurd h
lost_refusal t all (errors.NotMappable model) h = absurd h
lost_refusal t all (errors.Limit limit) h = absurd h
lost_refusal t all (errors.Joined metal a b) h = absurd h
lost_refusal t all (errors.Parted metal a b) h = absurd h
lost_refusal t all (errors.OffGrid real rect) h = absurd h
lost_refusal t all (errors.Near real a b) h = absurd h

pub joint_refusal : (t : ProcessTable) (all : List Mark) (e : ProcessError) → first_lost t all ≡ None → IsMetalRefusal (metal_shapes all) (metal_boxes t all) e
    → IsMakeRefusal t all e
joint_refusal t all errors.Memory kept h = tt
joint_refusal t all (errors.Joined metal a b) kept h = (kept, h)
joint_refusal t all (errors.Parted metal a b) kept h = (kept, h)
joint_refusal t all (errors.Lost word) kept h = absurd h
joint_refusal t all (errors.UnknownCell model) kept h = absurd h
joint_refusal t all (errors.NotMappable model) kept h = absurd h
joint_refusal t all (errors.Limit limit) kept h = absurd h
joint_refusal t all (errors.OffGrid real rect) kept h = absurd h
joint_refusal t all (errors.Near real a b) kept h = absurd h

module _ (t : ProcessTable) (all : List Mark) (boxes : List RealBox) (kept : first_lost t all ≡ None) (meet : MeetAsShapes (metal_shapes all) (metal_boxes t all))
    (are : boxes ≡ boxes_of t.entries t.head.scale all) where
  pub box_refusal : (e : ProcessError) → IsBoxRefusal t boxes e → IsMakeRefusal t all e
  box_refusal errors.Memory h = tt
  box_refusal (errors.Lost word) h = absurd h
  box_refusal (errors.UnknownCell model) h = absurd h
  box_refusal (errors.NotMappable model) h = absurd h
  box_refusal (errors.Joined metal a b) h = absurd h
  box_refusal (errors.Parted metal a b) h = absurd h
  box_refusal (errors.Limit limit) h = (kept, meet, subst (λ (bs : List RealBox). IsBoxRefusal t bs (errors.Limit limit)) are h)
  box_refusal (errors.OffGrid real rect) h = (kept, meet, subst (λ (bs : List RealBox). IsBoxRefusal t bs (errors.OffGrid real rect)) are h)
  box_refusal (errors.Near real a b) h = (kept, meet, subst (λ (bs : List RealBox). IsBoxRefusal t bs (errors.Near real a b)) are h)

-- ---- a layout

pub few_shapes : (items : List Item) (l : Library) (ms : List Mark) → ms ≡ marks l items → AreDrawn items l → length (metal_shapes ms) < 4294967296
few_shapes items l ms are drawn =
    let same : length (metal_shapes ms) ≡ length (layout_shapes items l) =
    ap (λ (xs : List Mark). length (metal_shapes xs)) are ∙ ap (λ (ss : List Shape). length ss) (shapes_same items l) in
    let count = length-map (shapes items l) bare in
    let few = drawn.few in
    omega (arith, same, count, few)

module _ (t : ProcessTable) (items : List Item) (l : Library) (drawn : AreDrawn items l) where
  -- what is said of the shapes of marks is said of those of the layout
  meets : MeetAsShapes (metal_shapes (marks l items)) (layout_metals t items l) → MeetAsShapes (layout_shapes items l) (layout_metals t items l)
  meets h = subst (λ (ss : List Shape). MeetAsShapes ss (layout_metals t items l)) (shapes_same items l) h

  of_marks : (e : ProcessError) → IsMakeRefusal t (marks l items) e → IsProcessRefusal t items l e
  of_marks errors.Memory h = tt
  of_marks (errors.Lost word) h = (drawn, h)
  of_marks (errors.UnknownCell model) h = absurd h.2
  of_marks (errors.NotMappable model) h = absurd h.2
  of_marks (errors.Joined metal a b) h =
      (drawn, h.0, subst (λ (ss : List Shape). IsFirstJoined ss (layout_metals t items l) metal a b) (shapes_same items l) h.1)
  of_marks (errors.Parted metal a b) h =
      let x = subst (λ (ss : List Shape). NoneUnlike ss (layout_metals t items l) × IsFirstParted ss (layout_metals t items l) metal a b) (shapes_same items l) h.1 in
      (drawn, h.0, x.0, x.1)
  of_marks (errors.Limit limit) h = inr (drawn, h.0, meets h.1, h.2)
  of_marks (errors.OffGrid real rect) h = (record { drawn = drawn; kept = h.0; meet = meets h.1; few = h.2.0 }, h.2.1)
  of_marks (errors.Near real a b) h = (record { drawn = drawn; kept = h.0; meet = meets h.1; few = h.2.0 }, h.2.1, h.2.2)

  pub make_refusal : (ms : List Mark) (e : ProcessError) → ms ≡ marks l items → IsMakeRefusal t ms e → IsProcessRefusal t items l e
  make_refusal ms e are h = of_marks e (subst (λ (xs : List Mark). IsMakeRefusal t xs e) are h)

  able : first_lost t (marks l items) ≡ None → MeetAsShapes (metal_shapes (marks l items)) (layout_metals t items l) → AreGood t (layout_boxes t items l) → CanBeMade t items l
  able kept meet good = record { boxes = record { drawn = drawn; kept = kept; meet = meets meet; few = good.few }; fit = good.fit; apart = good.apart }

  pub can_be_made : (ms : List Mark) (boxes : List RealBox) → ms ≡ marks l items → boxes ≡ boxes_of t.entries t.head.scale ms → first_lost t ms ≡ None
      → MeetAsShapes (metal_shapes ms) (metal_boxes t ms) → AreGood t boxes → CanBeMade t items l
  can_be_made ms boxes are made kept meet good =
      able (subst (λ (xs : List Mark). first_lost t xs ≡ None) are kept)
      (subst (λ (xs : List Mark). MeetAsShapes (metal_shapes xs) (metal_boxes t xs)) are meet)
      (subst (λ (xs : List Mark). AreGood t (boxes_of t.entries t.head.scale xs)) are (subst (λ (bs : List RealBox). AreGood t bs) made good))
