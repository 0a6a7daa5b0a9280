-- Cells over which nets may be drawn with tracks: the checks on a cell's layout.
use Rattle.std.specs.Prelude.{◌≡◌, ◌<◌, length, ◌≢◌, ◌⊎◌, ℕ, ◌*◌, ◌+◌, ◌-◌, ◌≤◌, ℤ, pos, ◌+ℤ◌, ◌-ℤ◌, ◌≤ℤ◌, Some}
use Rattle.sym_geom.specs.declared.grid.TheConstants.{PITCH, ROW_HEIGHT, RAIL_WIDTH, RAIL_OVERHANG, LEAST_GAP, VDD_STRIP_Y, RAIL_INSET, CELL_MARGIN}
use Rattle.vlsi_base.specs.declared.name.Name.{Name}
use Rattle.machine_core.specs.Machine.{names_of}
use Rattle.sym_geom.specs.Rect.{IsRect, Within}
use Rattle.sym_geom.specs.declared.rect.Rect.{Rect}
use Rattle.vlsi_base.specs.Member.{In}
use Rattle.sym_shapes.specs.Shape.{Shape, drawn}
use Rattle.sym_shapes.specs.Joined.{Joined}
use Rattle.cell_model.specs.Cell.{Cell, pin_ports}
use Rattle.vlsi_base.specs.Names.{vdd, vss}
use Rattle.cell_model.specs.Access.{access_nodes, access_point}

-- one connector of this name on metal 1 holds the strip at these heights, but for an inset at both ends
pub record HasStrip (c : Cell) (name : Name) (columns from to : ℕ) : Type 0 where
  pub pin : Shape
  pub listed : In pin (drawn c.items)
  pub named : pin.name ≡ Some name
  pub holds : Within
      (record { x1 = pos RAIL_INSET; y1 = pos from; x2 = pos (PITCH * columns) -ℤ pos RAIL_INSET; y2 = pos to }) pin.rect

-- within the cell, away from its sides
pub record IsInside (columns : ℕ) (r : Rect) : Type 0 where
  pub left : pos CELL_MARGIN ≤ℤ r.x1
  pub right : (r.x2 +ℤ pos CELL_MARGIN) ≤ℤ pos (PITCH * columns)
  pub low : pos 0 ≤ℤ r.y1
  pub high : r.y2 ≤ℤ pos ROW_HEIGHT

-- within one of the strips, over the sides by a rail's overhang at most
pub record IsInStrip (columns from to : ℕ) (r : Rect) : Type 0 where
  pub left : (pos 0 -ℤ pos RAIL_OVERHANG) ≤ℤ r.x1
  pub right : r.x2 ≤ℤ pos (PITCH * columns + RAIL_OVERHANG)
  pub low : pos from ≤ℤ r.y1
  pub high : r.y2 ≤ℤ pos to

-- the shape is joined to a connector of this name
pub record IsTied (c : Cell) (s : Shape) (name : Name) : Type 0 where
  pub pin : Shape
  pub listed : In pin (drawn c.items)
  pub named : pin.name ≡ Some name
  pub joined : Joined (drawn c.items) pin s

-- the checks of a cell beyond those of a usable one: box, rails, pins
pub record IsClean (c : Cell) : Type 0 where
  -- the box starts at 0,0, is as high as a row, and a positive number of columns wide
  pub columns : ℕ
  pub wide : 1 ≤ columns
  pub box : c.bounds ≡ record { x1 = pos 0; y1 = pos 0; x2 = pos (PITCH * columns); y2 = pos ROW_HEIGHT }
  -- it has shapes on metal 1 alone, whose edges are in order, and no other connector has the name of a supply
  pub metal : (s : Shape) → In s (drawn c.items) → s.metal ≡ 1
  pub order : (s : Shape) → In s (drawn c.items) → IsRect s.rect
  pub signals : (name : Name) → In name (names_of (pin_ports c)) → (name ≢ vdd) × (name ≢ vss)
  -- the supplies' strips
  pub low_strip : HasStrip c vss columns 0 RAIL_WIDTH
  pub high_strip : HasStrip c vdd columns VDD_STRIP_Y ROW_HEIGHT
  -- each signal pin has an access node
  pub access : (name : Name) → In name (names_of (pin_ports c)) → 0 < length (access_nodes c name)
  -- no two pins of different names are joined
  pub apart : (a b : Shape) (m d : Name) → a.name ≡ Some m → b.name ≡ Some d → Joined (drawn c.items) a b → m ≡ d
  pub inside : (s : Shape) → In s (drawn c.items)
      → IsInside columns s.rect ⊎ IsInStrip columns 0 RAIL_WIDTH s.rect ⊎ IsInStrip columns VDD_STRIP_Y ROW_HEIGHT s.rect
  -- what isn't joined to a supply is at least the least gap from its strip
  pub off_low : (s : Shape) → In s (drawn c.items) → IsTied c s vss ⊎ (pos (RAIL_WIDTH + LEAST_GAP) ≤ℤ s.rect.y1)
  pub off_high : (s : Shape) → In s (drawn c.items) → IsTied c s vdd ⊎ (s.rect.y2 ≤ℤ pos (VDD_STRIP_Y - LEAST_GAP))

-- no two signal pins of a cell have access nodes of one x
abbrev pub PinColumnsDiffer : Cell → Type 0
PinColumnsDiffer c =
    (m d : Name) (x y z : ℤ) → In m (names_of (pin_ports c)) → In d (names_of (pin_ports c))
    → access_point c m ≡ Some (x, y) → access_point c d ≡ Some (x, z) → m ≡ d
