-- Closed rectangles, by their edges, in hundredths of a symbolic unit.
use Rattle.std.specs.Prelude.{◌≡◌, ℕ, ◌<◌, ℤ, pos, negsuc, ◌+ℤ◌, ◌-ℤ◌, ◌≤ℤ◌, ◌<ℤ◌, ◌⊎◌, ◌↔◌, int_div, Bool, true, false}
use Rattle.sym_geom.specs.declared.rect.Rect.{Rect}
use Rattle.sym_geom.specs.declared.rect.Transform.{Transform}
use Rattle.sym_geom.specs.declared.rect.Transform.TheVariants.{NoSym, SymX, SymY, SymXY}

-- its edges are in order
pub record IsRect (r : Rect) : Type 0 where
  pub wide : r.x1 ≤ℤ r.x2
  pub tall : r.y1 ≤ℤ r.y2

-- A coordinate with which the calls here compute: at most 10,000,000,000,000 in absolute value.
pub record IsCoordinate (c : ℤ) : Type 0 where
  pub low : negsuc 9999999999999 ≤ℤ c
  pub high : c ≤ℤ pos 10000000000000

pub record HasCoordinates (r : Rect) : Type 0 where
  pub x1 : IsCoordinate r.x1
  pub y1 : IsCoordinate r.y1
  pub x2 : IsCoordinate r.x2
  pub y2 : IsCoordinate r.y2

-- what a few coordinates come to together: at most 1,000,000,000,000,000 in absolute value
pub record IsReach (c : ℤ) : Type 0 where
  pub low : negsuc 999999999999999 ≤ℤ c
  pub high : c ≤ℤ pos 1000000000000000

pub record HasReach (r : Rect) : Type 0 where
  pub x1 : IsReach r.x1
  pub y1 : IsReach r.y1
  pub x2 : IsReach r.x2
  pub y2 : IsReach r.y2

-- two closed rectangles meet: they have a point in common, which may lie on their edges
pub record Meet (a b : Rect) : Type 0 where
  pub left : a.x1 ≤ℤ b.x2
  pub right : b.x1 ≤ℤ a.x2
  pub low : a.y1 ≤ℤ b.y2
  pub high : b.y1 ≤ℤ a.y2

-- the first lies within the second
pub record Within (a b : Rect) : Type 0 where
  pub left : b.x1 ≤ℤ a.x1
  pub right : a.x2 ≤ℤ b.x2
  pub low : b.y1 ≤ℤ a.y1
  pub high : a.y2 ≤ℤ b.y2

-- their gap, the larger of the gaps along the two axes, is less than d
pub record Near (d : ℕ) (a b : Rect) : Type 0 where
  pub left : a.x1 <ℤ (b.x2 +ℤ pos d)
  pub right : b.x1 <ℤ (a.x2 +ℤ pos d)
  pub low : a.y1 <ℤ (b.y2 +ℤ pos d)
  pub high : b.y1 <ℤ (a.y2 +ℤ pos d)

-- their gap is at least d: one lies that far to a side of the other
abbrev pub Apart : ℕ → Rect → Rect → Type 0
Apart d a b = ((a.x2 +ℤ pos d) ≤ℤ b.x1) ⊎ ((b.x2 +ℤ pos d) ≤ℤ a.x1) ⊎ ((a.y2 +ℤ pos d) ≤ℤ b.y1) ⊎ ((b.y2 +ℤ pos d) ≤ℤ a.y1)

-- g is the gap of two rectangles: 0 where they meet, and elsewhere the larger of the gaps along the two axes
pub record IsGap (g : ℤ) (a b : Rect) : Type 0 where
  pub none : Meet a b → g ≡ pos 0
  pub less : (d : ℕ) → 0 < d → (g <ℤ pos d) ↔ Near d a b

-- the rectangle r moved by (x, y)
abbrev pub moved : Rect → ℤ → ℤ → Rect
moved r x y = record { x1 = r.x1 +ℤ x; y1 = r.y1 +ℤ y; x2 = r.x2 +ℤ x; y2 = r.y2 +ℤ y }

-- left and right are exchanged, and bottom and top
abbrev pub turns_x : Transform → Bool
turns_x NoSym = false
turns_x SymX = true
turns_x SymY = false
turns_x SymXY = true

abbrev pub turns_y : Transform → Bool
turns_y NoSym = false
turns_y SymX = false
turns_y SymY = true
turns_y SymXY = true

-- r turned within a box of width w and height h, whose lower left corner is the origin: SYM_X maps x to w - x,
-- SYM_Y maps y to h - y
abbrev pub turned : Transform → Rect → ℤ → ℤ → Rect
turned NoSym r w h = r
turned SymX r w h = record { x1 = w -ℤ r.x2; y1 = r.y1; x2 = w -ℤ r.x1; y2 = r.y2 }
turned SymY r w h = record { x1 = r.x1; y1 = h -ℤ r.y2; x2 = r.x2; y2 = h -ℤ r.y1 }
turned SymXY r w h = record { x1 = w -ℤ r.x2; y1 = h -ℤ r.y2; x2 = w -ℤ r.x1; y2 = h -ℤ r.y1 }

-- turned within the box, whose lower left corner then lies at (x, y)
abbrev pub transformed : Transform → Rect → ℤ → ℤ → ℤ → ℤ → Rect
transformed t r w h x y = moved (turned t r w h) x y

-- the square of width w about the point (x, y), rounded down on the low sides
abbrev pub square : ℤ → ℤ → ℤ → Rect
square x y w = record { x1 = x -ℤ int_div w (pos 2); y1 = y -ℤ int_div w (pos 2); x2 = x +ℤ (w -ℤ int_div w (pos 2)); y2 = y +ℤ (w -ℤ int_div w (pos 2)) }
