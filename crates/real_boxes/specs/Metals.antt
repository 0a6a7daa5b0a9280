-- The metals of a layout, and the boxes in which they are written.
use Rattle.std.specs.Prelude.{◌≡◌, ◌≢◌, ◌↔◌, ◌⊎◌, ℕ, ◌==◌, ◌+◌, ◌*◌, ◌<◌, ◌≤◌, ℤ, pos, neg_ℤ, ◌+ℤ◌, ◌-ℤ◌, ◌≤ℤ◌, int_div, Bool, true, false, ◌&&◌, find, is_some, List, [], ◌∷◌, ◌++◌, length, Option, None, Some, All}
use Rattle.std.specs.List.{list_any}
use Rattle.sym_geom.specs.Rect.{Meet, Near}
use Rattle.sym_geom.specs.declared.grid.TheConstants.{WIRE_OVERHANG, PAD_WIDTH}
use Rattle.sym_geom.specs.declared.rect.Rect.{Rect}
use Rattle.sym_shapes.specs.Shape.{Shape}
use Rattle.sym_near.specs.Related.{shape_at}
use Rattle.real_table.specs.declared.table.Growth.{Growth}
use Rattle.real_table.specs.declared.table.Entry.{Entry}
use Rattle.real_table.specs.declared.table.Entry.TheVariants as entry
use Rattle.real_table.specs.declared.table.ProcessTable.{ProcessTable}
use Rattle.real_boxes.specs.declared.mark.Mark.{Mark}
use Rattle.real_boxes.specs.declared.boxes.RealBox.{RealBox}
use Rattle.real_boxes.specs.declared.error.ProcessError.{ProcessError}
use Rattle.real_boxes.specs.declared.error.ProcessError.TheVariants as error
use Rattle.real_boxes.specs.Boxes.{layer_of, boxes_by}

-- the line of the table says that this metal is written on this layer
abbrev pub writes_on : List Entry → ℕ → ℕ → Entry → Bool
writes_on all metal layer (entry.Metal own real) = own == metal && layer_of all real == layer
writes_on all metal layer (entry.Rule r) = false
writes_on all metal layer (entry.Space real gap) = false
writes_on all metal layer (entry.Label symbolic real) = false
writes_on all metal layer entry.Nothing = false

-- some line does
abbrev pub is_layer_of : List Entry → ℕ → ℕ → Bool
is_layer_of all metal layer = list_any (writes_on all metal layer) all

-- the box of a metal among these: the first on a layer on which the metal is written
abbrev pub metal_box : List Entry → ℕ → List RealBox → Option RealBox
metal_box all metal boxes = find (λ b. is_layer_of all metal b.layer) boxes

-- there is one, if there is such a metal
abbrev pub is_written : List Entry → List RealBox → Option ℕ → Bool
is_written all boxes None = true
is_written all boxes (Some metal) = is_some (metal_box all metal boxes)

-- the boxes of a mark
abbrev pub mark_boxes : ProcessTable → Mark → List RealBox
mark_boxes t m = boxes_by t.entries t.head.scale t.entries m

-- each metal that a mark shows is written: that of a wire, and both of a via
abbrev pub is_kept : ProcessTable → Mark → Bool
is_kept t m = is_written t.entries (mark_boxes t m) m.metal && is_written t.entries (mark_boxes t m) m.above

-- ---- shapes of metals

-- a shape without what it belongs to
abbrev pub bare : Shape → Shape
bare s = record { metal = s.metal; rect = s.rect; owner = None; line = 0; name = None }

-- a shape of this metal, if it is one
abbrev pub on_metal : Option ℕ → Rect → List Shape
on_metal None r = []
on_metal (Some metal) r = record { metal = metal; rect = r; owner = None; line = 0; name = None } ∷ []

-- a wire with its overhang at the ends
abbrev pub lengthened : Bool → Rect → Rect
lengthened true r = record { x1 = r.x1; y1 = r.y1 -ℤ pos WIRE_OVERHANG; x2 = r.x2; y2 = r.y2 +ℤ pos WIRE_OVERHANG }
lengthened false r = record { x1 = r.x1 -ℤ pos WIRE_OVERHANG; y1 = r.y1; x2 = r.x2 +ℤ pos WIRE_OVERHANG; y2 = r.y2 }

-- a via's pad about its point
abbrev pub padded : Rect → Rect
padded r = record {
  x1 = r.x1 -ℤ int_div (pos PAD_WIDTH) (pos 2);
  y1 = r.y1 -ℤ int_div (pos PAD_WIDTH) (pos 2);
  x2 = r.x2 +ℤ int_div (pos PAD_WIDTH) (pos 2);
  y2 = r.y2 +ℤ int_div (pos PAD_WIDTH) (pos 2);
}

-- what a mark shows on each of its metals: a via, which has a metal above, its pads
abbrev pub shown_by : Option ℕ → Bool → Rect → Rect
shown_by None upright r = lengthened upright r
shown_by (Some above) upright r = padded r

abbrev pub shown_rect : Mark → Rect
shown_rect m = shown_by m.above m.upright m.core

abbrev pub mark_shapes : Mark → List Shape
mark_shapes m = on_metal m.metal (shown_rect m) ++ on_metal m.above (shown_rect m)

-- what marks show on metals, in their order, a via's lower pad first
abbrev pub metal_shapes : List Mark → List Shape
metal_shapes [] = []
metal_shapes (m ∷ rest) = mark_shapes m ++ metal_shapes rest

-- and where it is written
abbrev pub rect_of : Option RealBox → Rect
rect_of None = record { x1 = pos 0; y1 = pos 0; x2 = pos 0; y2 = pos 0 }
rect_of (Some b) = b.rect

abbrev pub written_rect : List Entry → List RealBox → Option ℕ → Rect
written_rect all boxes None = rect_of None
written_rect all boxes (Some metal) = rect_of (metal_box all metal boxes)

abbrev pub written_shapes : List Entry → List RealBox → Mark → List Shape
written_shapes all boxes m = on_metal m.metal (written_rect all boxes m.metal) ++ on_metal m.above (written_rect all boxes m.above)

-- the box of each of these shapes, on the layer of its metal, in their order
abbrev pub metal_boxes : ProcessTable → List Mark → List Shape
metal_boxes t [] = []
metal_boxes t (m ∷ rest) = written_shapes t.entries (mark_boxes t m) m ++ metal_boxes t rest

-- ---- what meets

-- two of these of one metal, by their places, that don't meet though those others do
pub record AreUnlike (these others : List Shape) (i j : ℕ) : Type 0 where
  pub order : i < j
  pub there : j < length these
  pub metal : (shape_at these i).metal ≡ (shape_at these j).metal
  pub apart : Meet (shape_at these i).rect (shape_at these j).rect → ⊥
  pub meet : Meet (shape_at others i).rect (shape_at others j).rect

abbrev pub NoneUnlike : List Shape → List Shape → Type 0
NoneUnlike these others = (i j : ℕ) → AreUnlike these others i j → ⊥

-- of all such pairs these are the first, in the order of the first and then of the second
pub record IsFirstUnlike (these others : List Shape) (i j : ℕ) : Type 0 where
  pub unlike : AreUnlike these others i j
  pub first : (k m : ℕ) → AreUnlike these others k m → (i < k) ⊎ ((i ≡ k) × (j ≤ m))

-- the metal and the rectangles of a pair
pub record ShowsPair (shapes : List Shape) (i j metal : ℕ) (a b : Rect) : Type 0 where
  pub metal_is : metal ≡ (shape_at shapes i).metal
  pub a_is : a ≡ (shape_at shapes i).rect
  pub b_is : b ≡ (shape_at shapes j).rect

-- the first two shapes of one metal that don't touch, but whose boxes meet
pub record IsFirstJoined (shapes boxes : List Shape) (metal : ℕ) (a b : Rect) : Type 0 where
  pub one : ℕ
  pub other : ℕ
  pub first : IsFirstUnlike shapes boxes one other
  pub shows : ShowsPair shapes one other metal a b

-- the first two that touch, and whose boxes don't meet
pub record IsFirstParted (shapes boxes : List Shape) (metal : ℕ) (a b : Rect) : Type 0 where
  pub one : ℕ
  pub other : ℕ
  pub first : IsFirstUnlike boxes shapes one other
  pub shows : ShowsPair shapes one other metal a b

-- boxes of one metal meet, as closed rectangles, exactly where their shapes touch
abbrev pub MeetAsShapes : List Shape → List Shape → Type 0
MeetAsShapes shapes boxes = (i j : ℕ) → i < length shapes → j < length shapes → i ≢ j → (shape_at shapes i).metal ≡ (shape_at shapes j).metal
    → Meet (shape_at boxes i).rect (shape_at boxes j).rect ↔ Meet (shape_at shapes i).rect (shape_at shapes j).rect

-- ---- how far boxes lie from what they write

-- one length moves an edge in or out, and another moves it on: by at most this together
pub record IsMovedWithin (most : ℕ) (out by : ℤ) : Type 0 where
  pub in_low : (by -ℤ out) ≤ℤ pos most
  pub in_high : neg_ℤ (pos most) ≤ℤ (by -ℤ out)
  pub out_low : neg_ℤ (pos most) ≤ℤ (by +ℤ out)
  pub out_high : (by +ℤ out) ≤ℤ pos most

pub record IsGrownWithin (most : ℕ) (g : Growth) : Type 0 where
  pub along_x : IsMovedWithin most g.along g.x
  pub along_y : IsMovedWithin most g.along g.y
  pub across_x : IsMovedWithin most g.across g.x
  pub across_y : IsMovedWithin most g.across g.y

abbrev pub IsEntryGrownWithin : ℕ → Entry → Type 0
IsEntryGrownWithin most (entry.Rule r) = IsGrownWithin most r.growth
IsEntryGrownWithin most (entry.Metal m real) = Unit {0}
IsEntryGrownWithin most (entry.Space real gap) = Unit {0}
IsEntryGrownWithin most (entry.Label layer real) = Unit {0}
IsEntryGrownWithin most entry.Nothing = Unit {0}

-- where those others meet, these have a gap less than this
abbrev pub AreWithinGap : List Shape → List Shape → ℕ → Type 0
AreWithinGap these others gap = (i j : ℕ) → i < length these → j < length these → Meet (shape_at others i).rect (shape_at others j).rect
    → Near gap (shape_at these i).rect (shape_at these j).rect

-- boxes lie at most this far from what they write, in real units: by an overhang, and as far as the table moves edges
pub record IsMostAside (t : ProcessTable) (n : ℕ) : Type 0 where
  pub reach : ℕ
  pub grown : All (λ e. IsEntryGrownWithin reach e) t.entries
  pub is : n ≡ t.head.scale * WIRE_OVERHANG + reach

-- ---- stages

-- shapes that don't touch would be joined, or memory has run out
abbrev pub IsJoinedRefusal : List Shape → List Shape → ProcessError → Type 0
IsJoinedRefusal shapes boxes error.Memory = Unit {0}
IsJoinedRefusal shapes boxes (error.Joined metal a b) = IsFirstJoined shapes boxes metal a b
IsJoinedRefusal shapes boxes e = ⊥

-- shapes that touch would be parted, or memory has run out
abbrev pub IsPartedRefusal : List Shape → List Shape → ProcessError → Type 0
IsPartedRefusal shapes boxes error.Memory = Unit {0}
IsPartedRefusal shapes boxes (error.Parted metal a b) = IsFirstParted shapes boxes metal a b
IsPartedRefusal shapes boxes e = ⊥

-- boxes don't meet exactly where shapes touch, or memory has run out
abbrev pub IsMetalRefusal : List Shape → List Shape → ProcessError → Type 0
IsMetalRefusal shapes boxes error.Memory = Unit {0}
IsMetalRefusal shapes boxes (error.Joined metal a b) = IsFirstJoined shapes boxes metal a b
IsMetalRefusal shapes boxes (error.Parted metal a b) = NoneUnlike shapes boxes × IsFirstParted shapes boxes metal a b
IsMetalRefusal shapes boxes e = ⊥
