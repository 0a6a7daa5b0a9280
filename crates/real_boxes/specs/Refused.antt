-- Which layouts have no boxes of a process.
use Rattle.std.specs.Prelude.{◌≡◌, ◌⊎◌, ℕ, ◌==◌, ◌<◌, ◌≤◌, ◌^◌, ℤ, pos, Bool, not, ◌&&◌, int_lt, int_rem, find, List, ◌∷◌, ◌++◌, length, map, filter, slice_index_or, Option, None, Some, All}
use Rattle.std.specs.Ordering.{int_eq}
use Rattle.vlsi_base.specs.declared.fault.Limit.{Limit}
use Rattle.vlsi_base.specs.declared.fault.LimitKind.TheVariants as kind
use Rattle.sym_geom.specs.Rect.{Meet, Near}
use Rattle.sym_geom.specs.declared.rect.Rect.{Rect}
use Rattle.sym_geom.specs.declared.item.Item.{Item}
use Rattle.cell_model.specs.Library.{Library}
use Rattle.sym_shapes.specs.Shape.{Shape}
use Rattle.cell_model.specs.Layout.{instances_of, shapes}
use Rattle.cougar_extract.specs.Extracted.{AreKnown}
use Rattle.cougar_extract.specs.Refused.{IsFirstUnknown, IsTooLarge}
use Rattle.s2r_cif.specs.Refused.{AreMappable, IsFirstUnmappable, AreDrawn}
use Rattle.real_table.specs.declared.table.Entry.{Entry}
use Rattle.real_table.specs.declared.table.Entry.TheVariants as entry
use Rattle.real_table.specs.declared.table.ProcessTable.{ProcessTable}
use Rattle.real_boxes.specs.declared.mark.Mark.{Mark}
use Rattle.real_boxes.specs.declared.boxes.RealBox.{RealBox}
use Rattle.real_boxes.specs.declared.error.ProcessError.{ProcessError}
use Rattle.real_boxes.specs.declared.error.ProcessError.TheVariants as error
use Rattle.real_boxes.specs.Marks.{marks}
use Rattle.real_boxes.specs.Boxes.{layer_of, boxes_of}
use Rattle.real_boxes.specs.Metals.{is_kept, bare, metal_shapes, metal_boxes, MeetAsShapes, NoneUnlike, IsFirstJoined, IsFirstParted, IsMetalRefusal}

-- ---- metal that would be lost

-- the first mark whose metal would be lost
abbrev pub first_lost : ProcessTable → List Mark → Option Mark
first_lost t all = find (λ m. not (is_kept t m)) all

-- its layer or contact
pub record IsFirstLost (t : ProcessTable) (all : List Mark) (word : List ℕ) : Type 0 where
  pub mark : Mark
  pub first : first_lost t all ≡ Some mark
  pub word_is : word ≡ mark.word

-- ---- boxes that don't fit

abbrev pub is_multiple : ℕ → ℤ → Bool
is_multiple grid n = int_eq (int_rem n (pos grid)) (pos 0)

-- its edges lie on the grid, and it has an area
abbrev pub fits : ℕ → Rect → Bool
fits grid r =
    is_multiple grid r.x1 && (is_multiple grid r.y1 && (is_multiple grid r.x2 && (is_multiple grid r.y2 && (int_lt r.x1 r.x2 && int_lt r.y1 r.y2))))

-- the first box that doesn't fit
abbrev pub first_unfit : ℕ → List RealBox → Option RealBox
first_unfit grid boxes = find (λ b. not (fits grid b.rect)) boxes

-- it has these edges, and is on this layer
pub record IsUnfit (all : List Entry) (grid : ℕ) (boxes : List RealBox) (real : List ℕ) (rect : Rect) : Type 0 where
  pub box : RealBox
  pub first : first_unfit grid boxes ≡ Some box
  pub edges : rect ≡ box.rect
  pub on : box.layer ≡ layer_of all real

-- ---- boxes that are too near

-- the rectangles of the boxes on a layer, in their order
abbrev pub on_layer : ℕ → List RealBox → List Rect
on_layer layer boxes = map (λ b. b.rect) (filter (λ b. b.layer == layer) boxes)

abbrev pub no_rect : Rect
no_rect = record { x1 = pos 0; y1 = pos 0; x2 = pos 0; y2 = pos 0 }

abbrev pub rect_at : List Rect → ℕ → Rect
rect_at rects k = slice_index_or rects k no_rect

-- two boxes on one layer, by their places there, that don't meet and have a gap less than this
pub record AreNear (rects : List Rect) (gap i j : ℕ) : Type 0 where
  pub order : i < j
  pub there : j < length rects
  pub apart : Meet (rect_at rects i) (rect_at rects j) → ⊥
  pub close : Near gap (rect_at rects i) (rect_at rects j)

abbrev pub NoneNear : List Rect → ℕ → Type 0
NoneNear rects gap = (i j : ℕ) → AreNear rects gap i j → ⊥

-- of all such pairs these are the first, in the order of the first and then of the second
pub record IsFirstNear (rects : List Rect) (gap : ℕ) (a b : Rect) : Type 0 where
  pub one : ℕ
  pub other : ℕ
  pub near : AreNear rects gap one other
  pub first : (k m : ℕ) → AreNear rects gap k m → (one < k) ⊎ ((one ≡ k) × (other ≤ m))
  pub a_is : a ≡ rect_at rects one
  pub b_is : b ≡ rect_at rects other

-- no two boxes are too near that a line of the table keeps apart
abbrev pub KeepsApart : List Entry → List RealBox → Entry → Type 0
KeepsApart all boxes (entry.Rule r) = Unit {0}
KeepsApart all boxes (entry.Metal m real) = Unit {0}
KeepsApart all boxes (entry.Space real gap) = NoneNear (on_layer (layer_of all real) boxes) gap
KeepsApart all boxes (entry.Label layer real) = Unit {0}
KeepsApart all boxes entry.Nothing = Unit {0}

-- the first line that doesn't keep boxes apart, and its first two
pub record IsFirstClose (all : List Entry) (boxes : List RealBox) (real : List ℕ) (a b : Rect) : Type 0 where
  pub before : List Entry
  pub gap : ℕ
  pub behind : List Entry
  pub entries_are : all ≡ before ++ entry.Space real gap ∷ behind
  pub apart : All (KeepsApart all boxes) before
  pub first : IsFirstNear (on_layer (layer_of all real) boxes) gap a b

-- ---- all together

-- the boxes of a layout
abbrev pub layout_boxes : ProcessTable → List Item → Library → List RealBox
layout_boxes t items l = boxes_of t.entries t.head.scale (marks l items)

-- its shapes on metals, without what they belong to, and the boxes in which these are written
abbrev pub layout_shapes : List Item → Library → List Shape
layout_shapes items l = map bare (shapes items l)

abbrev pub layout_metals : ProcessTable → List Item → Library → List Shape
layout_metals t items l = metal_boxes t (marks l items)

-- no metal is lost, boxes of metals meet exactly where their shapes touch, and boxes are fewer than 2^32
pub record HasBoxes (t : ProcessTable) (items : List Item) (l : Library) : Type 0 where
  pub drawn : AreDrawn items l
  pub kept : first_lost t (marks l items) ≡ None
  pub meet : MeetAsShapes (layout_shapes items l) (layout_metals t items l)
  pub few : length (layout_boxes t items l) < 2 ^ 32

-- a layout has boxes of a process
pub record CanBeMade (t : ProcessTable) (items : List Item) (l : Library) : Type 0 where
  pub boxes : HasBoxes t items l
  pub fit : first_unfit t.head.grid (layout_boxes t items l) ≡ None
  pub apart : All (KeepsApart t.entries (layout_boxes t items l)) t.entries

abbrev pub IsMany : List RealBox → Limit → Type 0
IsMany boxes limit = (2 ^ 32 ≤ length boxes) × (limit ≡ record { which = kind.Size; reached = length boxes })

-- Why a layout has no boxes of a process, if memory hasn't run out, in this order: an unknown cell, a cell that isn't mappable, 2^32
-- shapes or more, metal that would be lost, shapes that would be joined, shapes that would be parted, 2^32 boxes or more, a box that
-- doesn't fit, boxes that are too near.
abbrev pub IsProcessRefusal : ProcessTable → List Item → Library → ProcessError → Type 0
IsProcessRefusal t items l error.Memory = Unit {0}
IsProcessRefusal t items l (error.UnknownCell model) = IsFirstUnknown (instances_of items) l model
IsProcessRefusal t items l (error.NotMappable model) = AreKnown (instances_of items) l × IsFirstUnmappable (instances_of items) l model
IsProcessRefusal t items l (error.Limit limit) =
    (AreKnown (instances_of items) l × AreMappable (instances_of items) l × IsTooLarge items l limit)
    ⊎ (AreDrawn items l × (first_lost t (marks l items) ≡ None) × MeetAsShapes (layout_shapes items l) (layout_metals t items l)
    × IsMany (layout_boxes t items l) limit)
IsProcessRefusal t items l (error.Lost word) = AreDrawn items l × IsFirstLost t (marks l items) word
IsProcessRefusal t items l (error.Joined metal a b) =
    AreDrawn items l × (first_lost t (marks l items) ≡ None) × IsFirstJoined (layout_shapes items l) (layout_metals t items l) metal a b
IsProcessRefusal t items l (error.Parted metal a b) =
    AreDrawn items l × (first_lost t (marks l items) ≡ None) × NoneUnlike (layout_shapes items l) (layout_metals t items l)
    × IsFirstParted (layout_shapes items l) (layout_metals t items l) metal a b
IsProcessRefusal t items l (error.OffGrid real rect) =
    HasBoxes t items l × IsUnfit t.entries t.head.grid (layout_boxes t items l) real rect
IsProcessRefusal t items l (error.Near real a b) =
    HasBoxes t items l × (first_unfit t.head.grid (layout_boxes t items l) ≡ None) × IsFirstClose t.entries (layout_boxes t items l) real a b

-- ---- stages

-- metal would be lost, or memory has run out
abbrev pub IsLostRefusal : ProcessTable → List Mark → ProcessError → Type 0
IsLostRefusal t all error.Memory = Unit {0}
IsLostRefusal t all (error.Lost word) = IsFirstLost t all word
IsLostRefusal t all e = ⊥

-- boxes are too near, or memory has run out
abbrev pub IsNearRefusal : List Entry → List RealBox → ProcessError → Type 0
IsNearRefusal all boxes error.Memory = Unit {0}
IsNearRefusal all boxes (error.Near real a b) = IsFirstClose all boxes real a b
IsNearRefusal all boxes e = ⊥

-- there are cells for all, and shapes that are few; or this is the refusal
abbrev pub IsDrawRefusal : List Item → Library → ProcessError → Type 0
IsDrawRefusal items l error.Memory = Unit {0}
IsDrawRefusal items l (error.UnknownCell model) = IsFirstUnknown (instances_of items) l model
IsDrawRefusal items l (error.NotMappable model) = AreKnown (instances_of items) l × IsFirstUnmappable (instances_of items) l model
IsDrawRefusal items l (error.Limit limit) = AreKnown (instances_of items) l × AreMappable (instances_of items) l × IsTooLarge items l limit
IsDrawRefusal items l e = ⊥

-- a line of the table doesn't keep boxes apart, or memory has run out
abbrev pub IsCloseOn : List Entry → List RealBox → Entry → List ℕ → Rect → Rect → Type 0
IsCloseOn all boxes (entry.Space own gap) real a b = (own ≡ real) × IsFirstNear (on_layer (layer_of all own) boxes) gap a b
IsCloseOn all boxes (entry.Rule r) real a b = ⊥
IsCloseOn all boxes (entry.Metal m own) real a b = ⊥
IsCloseOn all boxes (entry.Label layer own) real a b = ⊥
IsCloseOn all boxes entry.Nothing real a b = ⊥

abbrev pub IsEntryRefusal : List Entry → List RealBox → Entry → ProcessError → Type 0
IsEntryRefusal all boxes e error.Memory = Unit {0}
IsEntryRefusal all boxes e (error.Near real a b) = IsCloseOn all boxes e real a b
IsEntryRefusal all boxes e other = ⊥

-- a box doesn't fit, or memory has run out
abbrev pub IsFitRefusal : List Entry → ℕ → List RealBox → ProcessError → Type 0
IsFitRefusal all grid boxes error.Memory = Unit {0}
IsFitRefusal all grid boxes (error.OffGrid real rect) = IsUnfit all grid boxes real rect
IsFitRefusal all grid boxes e = ⊥

-- boxes are few, fit and are apart
pub record AreGood (t : ProcessTable) (boxes : List RealBox) : Type 0 where
  pub few : length boxes < 2 ^ 32
  pub fit : first_unfit t.head.grid boxes ≡ None
  pub apart : All (KeepsApart t.entries boxes) t.entries

-- or they aren't, or memory has run out
abbrev pub IsBoxRefusal : ProcessTable → List RealBox → ProcessError → Type 0
IsBoxRefusal t boxes error.Memory = Unit {0}
IsBoxRefusal t boxes (error.Limit limit) = IsMany boxes limit
IsBoxRefusal t boxes (error.OffGrid real rect) = (length boxes < 2 ^ 32) × IsUnfit t.entries t.head.grid boxes real rect
IsBoxRefusal t boxes (error.Near real a b) = (length boxes < 2 ^ 32) × (first_unfit t.head.grid boxes ≡ None) × IsFirstClose t.entries boxes real a b
IsBoxRefusal t boxes e = ⊥

-- metal would be lost, joined or parted, or the boxes aren't good
abbrev pub IsMakeRefusal : ProcessTable → List Mark → ProcessError → Type 0
IsMakeRefusal t all error.Memory = Unit {0}
IsMakeRefusal t all (error.Lost word) = IsFirstLost t all word
IsMakeRefusal t all (error.Joined metal a b) = (first_lost t all ≡ None) × IsMetalRefusal (metal_shapes all) (metal_boxes t all) (error.Joined metal a b)
IsMakeRefusal t all (error.Parted metal a b) = (first_lost t all ≡ None) × IsMetalRefusal (metal_shapes all) (metal_boxes t all) (error.Parted metal a b)
IsMakeRefusal t all e =
    (first_lost t all ≡ None) × MeetAsShapes (metal_shapes all) (metal_boxes t all) × IsBoxRefusal t (boxes_of t.entries t.head.scale all) e
