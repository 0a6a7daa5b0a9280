-- Real layouts: a box for each shape of a symbolic layout, and a cut for each of its vias, in halves of a real unit.
use Rattle.std.specs.Prelude.{◌≡◌, ◌≢◌, ◌↔◌, ℕ, ◌-◌, ◌*◌, ◌<◌, ◌≤◌, ℤ, pos, negsuc, ◌+ℤ◌, ◌-ℤ◌, ◌*ℤ◌, ◌≤ℤ◌, List, [], ◌∷◌, ◌++◌, map, length, slice_index, slice_index_or, Option, None, Some, All}
use Rattle.sym_geom.specs.Rect.{Meet, Near, square}
use Rattle.sym_geom.specs.Items.{lower_metal}
use Rattle.sym_geom.specs.declared.rect.Rect.{Rect}
use Rattle.sym_geom.specs.declared.item.Via.{Via}
use Rattle.sym_geom.specs.declared.item.Item.{Item}
use Rattle.sym_geom.specs.declared.item.Item.TheVariants as item
use Rattle.sym_shapes.specs.Shape.{Shape}
use Rattle.sym_near.specs.Related.{shape_at}
use Rattle.cell_model.specs.Library.{Library}
use Rattle.cell_model.specs.Layout.{shapes}
use Rattle.s2r_cif.specs.declared.table.TheConstants.{MOST_SCALE, MOST_GROW}
use Rattle.s2r_cif.specs.declared.making.TheConstants.{CUT_WIDTH}
use Rattle.s2r_cif.specs.declared.table.RealTable.{RealTable}
use Rattle.s2r_cif.specs.declared.layout.RealBox.{RealBox}
use Rattle.s2r_cif.specs.declared.layout.RealLayout.{RealLayout}

-- ---- tables

-- its numbers are within their bounds
pub record IsRealTable (t : RealTable) : Type 0 where
  pub least : 1 ≤ t.scale
  pub most : t.scale ≤ MOST_SCALE
  pub grow : All (λ g. g ≤ MOST_GROW) t.grow

-- by how many real units each edge of a shape of this metal moves outward; the first number is that of metal 1
abbrev pub grow_of : RealTable → ℕ → ℕ
grow_of t metal = slice_index t.grow (metal - 1)

-- ---- boxes

-- an edge times the scale, moved outward by the grow; in halves of a real unit
abbrev pub real_low : ℕ → ℕ → ℤ → ℤ
real_low scale grow c = pos 2 *ℤ ((pos scale *ℤ c) -ℤ pos grow)

abbrev pub real_high : ℕ → ℕ → ℤ → ℤ
real_high scale grow c = pos 2 *ℤ ((pos scale *ℤ c) +ℤ pos grow)

abbrev pub real_rect : ℕ → ℕ → Rect → Rect
real_rect scale grow r = record { x1 = real_low scale grow r.x1; y1 = real_low scale grow r.y1; x2 = real_high scale grow r.x2; y2 = real_high scale grow r.y2 }

-- the box of a shape
abbrev pub box_of : RealTable → Shape → RealBox
box_of t s = record { level = s.metal; rect = real_rect t.scale (grow_of t s.metal) s.rect }

-- the cut of a via that joins metal k and the next: a square about its point, which doesn't grow
abbrev pub via_cuts : RealTable → Via → Option ℕ → List RealBox
via_cuts t v None = []
via_cuts t v (Some k) = record { level = k; rect = real_rect t.scale 0 (square v.x v.y (pos CUT_WIDTH)) } ∷ []

abbrev pub item_cuts : RealTable → Item → List RealBox
item_cuts t (item.Segment s) = []
item_cuts t (item.Connector c) = []
item_cuts t (item.Via v) = via_cuts t v (lower_metal v.contact)
item_cuts t (item.Instance i) = []
item_cuts t (item.Reference r) = []
item_cuts t (item.Remark text) = []

-- the cuts of a figure, in the order of its lines
abbrev pub cuts_of : RealTable → List Item → List RealBox
cuts_of t [] = []
cuts_of t (one ∷ rest) = item_cuts t one ++ cuts_of t rest

-- ---- what meets

abbrev pub no_box : RealBox
no_box = record { level = 0; rect = record { x1 = pos 0; y1 = pos 0; x2 = pos 0; y2 = pos 0 } }

abbrev pub box_at : List RealBox → ℕ → RealBox
box_at boxes k = slice_index_or boxes k no_box

-- two boxes of one metal meet, as closed rectangles, exactly where their shapes touch
abbrev pub MeetAsShapes : List Shape → List RealBox → Type 0
MeetAsShapes all boxes = (i j : ℕ) → i < length all → j < length all → i ≢ j → (shape_at all i).metal ≡ (shape_at all j).metal
    → Meet (box_at boxes i).rect (box_at boxes j).rect ↔ Meet (shape_at all i).rect (shape_at all j).rect

-- The real layout of lines that show these shapes: a box for each shape, in their order; a cut for each via, in file order; and boxes
-- of one metal meet exactly where their shapes touch.
pub record IsRealFrom (t : RealTable) (items : List Item) (all : List Shape) (r : RealLayout) : Type 0 where
  pub boxes : r.boxes ≡ map (box_of t) all
  pub cuts : r.cuts ≡ cuts_of t items
  pub meet : MeetAsShapes all r.boxes

-- that of a figure with instances of these cells
abbrev pub IsRealOf : RealTable → List Item → Library → RealLayout → Type 0
IsRealOf t items l r = IsRealFrom t items (shapes items l) r

-- ---- gaps

-- a coordinate, scaled, is at most twice the grow above another
abbrev pub IsWithinGrow : ℕ → ℕ → ℤ → ℤ → Type 0
IsWithinGrow scale grow above below = (pos scale *ℤ above) ≤ℤ ((pos scale *ℤ below) +ℤ pos (2 * grow))

-- their gap, the larger of the gaps along the two axes, times the scale is at most twice the grow
pub record AreClose (scale grow : ℕ) (a b : Rect) : Type 0 where
  pub left : IsWithinGrow scale grow a.x1 b.x2
  pub right : IsWithinGrow scale grow b.x1 a.x2
  pub low : IsWithinGrow scale grow a.y1 b.y2
  pub high : IsWithinGrow scale grow b.y1 a.y2

-- rectangles that are so close on any metal have a gap less than this
abbrev pub AllWithinGap : RealTable → ℕ → Type 0
AllWithinGap t gap = (metal : ℕ) (a b : Rect) → AreClose t.scale (grow_of t metal) a b → Near gap a b

-- ---- edges with which the writer computes: at most 3,000,000,000,000,000,000 in absolute value

pub record IsRealEdge (c : ℤ) : Type 0 where
  pub low : negsuc 2999999999999999999 ≤ℤ c
  pub high : c ≤ℤ pos 3000000000000000000

pub record HasRealEdges (r : Rect) : Type 0 where
  pub x1 : IsRealEdge r.x1
  pub y1 : IsRealEdge r.y1
  pub x2 : IsRealEdge r.x2
  pub y2 : IsRealEdge r.y2

abbrev pub AreRealBoxes : List RealBox → Type 0
AreRealBoxes boxes = All (λ b. HasRealEdges b.rect) boxes

pub record IsRealLayout (r : RealLayout) : Type 0 where
  pub boxes : AreRealBoxes r.boxes
  pub cuts : AreRealBoxes r.cuts
