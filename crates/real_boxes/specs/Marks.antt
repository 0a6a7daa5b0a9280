-- What a layout draws on all its layers: the lines of its segments, the squares of its connectors, and the points of its contacts.
use Rattle.std.specs.Prelude.{ℕ, ◌+◌, ℤ, pos, ◌+ℤ◌, ◌-ℤ◌, Bool, true, false, List, [], ◌∷◌, ◌++◌, map, Option, None, Some}
use Rattle.sym_geom.specs.declared.grid.TheConstants.{WIRE_OVERHANG}
use Rattle.sym_geom.specs.declared.rect.Rect.{Rect}
use Rattle.sym_geom.specs.declared.item.Direction.{Direction}
use Rattle.sym_geom.specs.declared.item.Direction.TheVariants.{Up, Down, Left, Right}
use Rattle.sym_geom.specs.declared.item.Segment.{Segment}
use Rattle.sym_geom.specs.declared.item.Connector.{Connector}
use Rattle.sym_geom.specs.declared.item.Instance.{Instance as Placed}
use Rattle.sym_geom.specs.declared.item.Item.{Item}
use Rattle.sym_geom.specs.declared.item.Item.TheVariants as item
use Rattle.sym_geom.specs.Metal.{metal_of}
use Rattle.sym_geom.specs.Rect.{square}
use Rattle.sym_geom.specs.Items.{segment_rect, lower_metal}
use Rattle.ap_io.specs.Spelling.{layer_text, contact_text}
use Rattle.cell_model.specs.Cell.{Cell}
use Rattle.cell_model.specs.Library.{Library, cell_of}
use Rattle.cougar_extract.specs.Stages.{placed_rect}
use Rattle.real_boxes.specs.declared.mark.Mark.{Mark}

-- a line that runs upright, and not level
abbrev pub is_upright : Direction → Bool
is_upright Up = true
is_upright Down = true
is_upright Left = false
is_upright Right = false

-- a rectangle without the overhang of a wire at its ends
abbrev pub shortened : Bool → Rect → Rect
shortened true r = record { x1 = r.x1; y1 = r.y1 +ℤ pos WIRE_OVERHANG; x2 = r.x2; y2 = r.y2 -ℤ pos WIRE_OVERHANG }
shortened false r = record { x1 = r.x1 +ℤ pos WIRE_OVERHANG; y1 = r.y1; x2 = r.x2 -ℤ pos WIRE_OVERHANG; y2 = r.y2 }

-- the line between a segment's ends, as wide as it says: the rectangle that it shows as a wire, without the overhang
abbrev pub segment_core : Segment → Rect
segment_core s = shortened (is_upright s.direction) (segment_rect s)

-- a connector counts as an upright segment that shows its square
abbrev pub connector_core : Connector → Rect
connector_core c = shortened true (square c.x c.y c.width)

abbrev pub point : ℤ → ℤ → Rect
point x y = record { x1 = x; y1 = y; x2 = x; y2 = y }

-- the metal above this one
abbrev pub metal_above : Option ℕ → Option ℕ
metal_above None = None
metal_above (Some k) = Some (k + 1)

-- what a line draws: the word of its layer or contact, the metals that it shows (a via two), and its rectangle
abbrev pub item_marks : Item → List Mark
item_marks (item.Segment s) =
    record { word = layer_text s.layer; metal = metal_of s.layer; above = None; upright = is_upright s.direction; core = segment_core s } ∷ []
item_marks (item.Connector c) = record { word = layer_text c.layer; metal = metal_of c.layer; above = None; upright = true; core = connector_core c } ∷ []
item_marks (item.Via v) =
    record { word = contact_text v.contact; metal = lower_metal v.contact; above = metal_above (lower_metal v.contact); upright = true; core = point v.x v.y } ∷ []
item_marks (item.Instance i) = []
item_marks (item.Reference r) = []
item_marks (item.Remark text) = []

abbrev pub drawn_marks : List Item → List Mark
drawn_marks [] = []
drawn_marks (one ∷ rest) = item_marks one ++ drawn_marks rest

-- what a cell draws where an instance shows it
abbrev pub placed_mark : Cell → Placed → Mark → Mark
placed_mark c i m = record m { core = placed_rect c i m.core }

abbrev pub instance_marks : Option Cell → Placed → List Mark
instance_marks None i = []
instance_marks (Some c) i = map (placed_mark c i) (drawn_marks c.items)

abbrev pub item_shows : Library → Item → List Mark
item_shows l (item.Segment s) = []
item_shows l (item.Connector c) = []
item_shows l (item.Via v) = []
item_shows l (item.Instance i) = instance_marks (cell_of l i.model) i
item_shows l (item.Reference r) = []
item_shows l (item.Remark text) = []

abbrev pub shown_marks : Library → List Item → List Mark
shown_marks l [] = []
shown_marks l (one ∷ rest) = item_shows l one ++ shown_marks l rest

-- what is drawn in a layout: its own lines in file order, and then what its instances show in file order
abbrev pub marks : Library → List Item → List Mark
marks l items = drawn_marks items ++ shown_marks l items
