-- What the items of a figure show.
use Rattle.std.specs.Prelude.{ℕ, ◌+◌, ℤ, pos, ◌+ℤ◌, ◌-ℤ◌, ◌≤ℤ◌, List, [], ◌∷◌, Option, None, Some, int_div}
use Rattle.std.specs.Int.{int_min, int_max}
use Rattle.sym_geom.specs.Rect.{IsCoordinate, square}
use Rattle.sym_geom.specs.declared.grid.TheConstants.{WIRE_OVERHANG, PAD_WIDTH}
use Rattle.sym_geom.specs.declared.rect.Rect.{Rect}
use Rattle.sym_geom.specs.declared.item.Direction.{Direction}
use Rattle.sym_geom.specs.declared.item.Direction.TheVariants.{Up, Down, Left, Right}
use Rattle.sym_geom.specs.declared.item.Segment.{Segment}
use Rattle.sym_geom.specs.declared.item.Contact.{Contact}
use Rattle.sym_geom.specs.declared.item.Contact.TheVariants.{Via1, Via2, Via3, Via4, Via5, Other}
use Rattle.sym_geom.specs.declared.item.Via.{Via}

-- a segment with whose numbers the calls compute: its width is at least 1, and all are coordinates
pub record IsReadySegment (s : Segment) : Type 0 where
  pub x1 : IsCoordinate s.x1
  pub y1 : IsCoordinate s.y1
  pub x2 : IsCoordinate s.x2
  pub y2 : IsCoordinate s.y2
  pub positive : pos 1 ≤ℤ s.width
  pub width : IsCoordinate s.width

-- half of a width, rounded down: what lies on the low side of a line
abbrev pub low_half : ℤ → ℤ
low_half w = int_div w (pos 2)

-- the rest, which lies on the high side
abbrev pub high_half : ℤ → ℤ
high_half w = w -ℤ int_div w (pos 2)

-- The rectangle of a segment between its ends, whatever their order: widened across by its width, and longer by
-- an overhang at both ends.
abbrev pub upright_rect : Segment → Rect
upright_rect s = record {
  x1 = int_min s.x1 s.x2 -ℤ low_half s.width;
  y1 = int_min s.y1 s.y2 -ℤ pos WIRE_OVERHANG;
  x2 = int_max s.x1 s.x2 +ℤ high_half s.width;
  y2 = int_max s.y1 s.y2 +ℤ pos WIRE_OVERHANG;
}

abbrev pub level_rect : Segment → Rect
level_rect s = record {
  x1 = int_min s.x1 s.x2 -ℤ pos WIRE_OVERHANG;
  y1 = int_min s.y1 s.y2 -ℤ low_half s.width;
  x2 = int_max s.x1 s.x2 +ℤ pos WIRE_OVERHANG;
  y2 = int_max s.y1 s.y2 +ℤ high_half s.width;
}

abbrev pub run_rect : Direction → Segment → Rect
run_rect Up s = upright_rect s
run_rect Down s = upright_rect s
run_rect Left s = level_rect s
run_rect Right s = level_rect s

abbrev pub segment_rect : Segment → Rect
segment_rect s = run_rect s.direction s

-- CONT_VIA joins the metals 1 and 2, and so on to CONT_VIA5; other contacts join none
abbrev pub lower_metal : Contact → Option ℕ
lower_metal Via1 = Some 1
lower_metal Via2 = Some 2
lower_metal Via3 = Some 3
lower_metal Via4 = Some 4
lower_metal Via5 = Some 5
lower_metal (Other word) = None

-- two squares on neighbouring metals
abbrev pub pads_on : Option ℕ → Rect → Option (List (ℕ × Rect))
pads_on None pad = None
pads_on (Some k) pad = Some ((k, pad) ∷ (k + 1, pad) ∷ [])

abbrev pub via_pads : Via → Option (List (ℕ × Rect))
via_pads v = pads_on (lower_metal v.contact) (square v.x v.y (pos PAD_WIDTH))
