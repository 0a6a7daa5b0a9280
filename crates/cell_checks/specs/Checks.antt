-- The checks of a cell's layout. That of its connectors is `PinsAreConnectors` of cell_model.
use Rattle.std.specs.Prelude.{◌≡◌, ◌⊎◌, ℕ, ◌*◌, ◌≤◌, ℤ, pos, ◌+ℤ◌, ◌-ℤ◌, ◌*ℤ◌, ◌≤ℤ◌, IsTrue, Some}
use Rattle.vlsi_base.specs.declared.name.Name.{Name}
use Rattle.vlsi_base.specs.Member.{In}
use Rattle.vlsi_base.specs.Names.{vdd, vss}
use Rattle.machine_core.specs.Machine.{names_of}
use Rattle.sym_geom.specs.declared.grid.TheConstants.{PITCH, ROW_HEIGHT, RAIL_WIDTH, RAIL_OVERHANG, LEAST_GAP, VDD_STRIP_Y, RAIL_INSET, CELL_MARGIN}
use Rattle.sym_geom.specs.declared.rect.Rect.{Rect}
use Rattle.sym_geom.specs.Rect.{Within, Apart}
use Rattle.sym_shapes.specs.Shape.{Shape, drawn}
use Rattle.sym_shapes.specs.Joined.{Joined}
use Rattle.cell_model.specs.Cell.{Cell, pin_ports, cell_width}
use Rattle.cell_model.specs.Access.{is_access_node, access_point}

-- the box starts at 0,0, is as high as a row, and so many columns wide, at least one
pub record HasColumns (c : Cell) (columns : ℕ) : Type 0 where
  pub wide : 1 ≤ columns
  pub left : c.bounds.x1 ≡ pos 0
  pub low : c.bounds.y1 ≡ pos 0
  pub right : c.bounds.x2 ≡ pos (PITCH * columns)
  pub high : c.bounds.y2 ≡ pos ROW_HEIGHT

-- the box stands in a row of cells
pub record StandsInRow (c : Cell) : Type 0 where
  pub columns : ℕ
  pub box : HasColumns c columns

-- what a rail has to hold: the strip at these heights, but for an inset at both ends
abbrev pub rail : ℤ → ℕ → ℕ → Rect
rail width from to = record { x1 = pos RAIL_INSET; y1 = pos from; x2 = width -ℤ pos RAIL_INSET; y2 = pos to }

-- one connector of this name on metal 1 holds the rail
pub record HasRail (c : Cell) (name : Name) (from to : ℕ) : Type 0 where
  pub pin : Shape
  pub listed : In pin (drawn c.items)
  pub named : pin.name ≡ Some name
  pub metal : pin.metal ≡ 1
  pub holds : Within (rail (cell_width c) from to) pin.rect

-- vss has its rail at the foot of the box, and vdd at its head
pub record HasRails (c : Cell) : Type 0 where
  pub low : HasRail c vss 0 RAIL_WIDTH
  pub high : HasRail c vdd VDD_STRIP_Y ROW_HEIGHT

-- a point of the grid, wherever it lies, is an access node of the pin
pub record HasAccessNode (c : Cell) (pin : Name) : Type 0 where
  pub column : ℤ
  pub row : ℤ
  pub node : IsTrue (is_access_node c pin (pos PITCH *ℤ column, pos PITCH *ℤ row))

-- each signal pin has an access node
pub record IsReached (c : Cell) : Type 0 where
  pub each : (name : Name) → In name (names_of (pin_ports c)) → HasAccessNode c name

-- no two pins of different names are joined, supplies among them
pub record PinsAreApart (c : Cell) : Type 0 where
  pub same : (a b : Shape) (m n : Name) → a.name ≡ Some m → b.name ≡ Some n → Joined (drawn c.items) a b → m ≡ n

-- within the box, away from its sides
pub record IsInside (width : ℤ) (r : Rect) : Type 0 where
  pub left : pos CELL_MARGIN ≤ℤ r.x1
  pub right : r.x2 ≤ℤ (width -ℤ pos CELL_MARGIN)
  pub low : pos 0 ≤ℤ r.y1
  pub high : r.y2 ≤ℤ pos ROW_HEIGHT

-- the strip of a supply at these heights, over the sides of the box by a rail's overhang
abbrev pub strip : ℤ → ℕ → ℕ → Rect
strip width from to = record { x1 = pos 0 -ℤ pos RAIL_OVERHANG; y1 = pos from; x2 = width +ℤ pos RAIL_OVERHANG; y2 = pos to }

abbrev pub vss_strip : Cell → Rect
vss_strip c = strip (cell_width c) 0 RAIL_WIDTH

abbrev pub vdd_strip : Cell → Rect
vdd_strip c = strip (cell_width c) VDD_STRIP_Y ROW_HEIGHT

-- each shape on metal 1 lies within the box, or within one of the two strips
pub record KeepsToItsBox (c : Cell) : Type 0 where
  pub each : (s : Shape) → In s (drawn c.items) → s.metal ≡ 1
      → IsInside (cell_width c) s.rect ⊎ Within s.rect (vss_strip c) ⊎ Within s.rect (vdd_strip c)

-- the shape is joined to a connector of this name
pub record IsTied (c : Cell) (s : Shape) (name : Name) : Type 0 where
  pub pin : Shape
  pub named : pin.name ≡ Some name
  pub joined : Joined (drawn c.items) pin s

-- each shape on metal 1 that isn't joined to the supply is at least the least gap from its strip
abbrev pub KeepsFromRail : Cell → Name → Rect → Type 0
KeepsFromRail c name rail = (s : Shape) → In s (drawn c.items) → s.metal ≡ 1 → IsTied c s name ⊎ Apart LEAST_GAP s.rect rail

pub record KeepsFromRails (c : Cell) : Type 0 where
  pub low : KeepsFromRail c vss (vss_strip c)
  pub high : KeepsFromRail c vdd (vdd_strip c)

-- no two signal pins are reached at one x
pub record ColumnsDiffer (c : Cell) : Type 0 where
  pub same : (m n : Name) (x y z : ℤ) → In m (names_of (pin_ports c)) → In n (names_of (pin_ports c))
      → access_point c m ≡ Some (x, y) → access_point c n ≡ Some (x, z) → m ≡ n
