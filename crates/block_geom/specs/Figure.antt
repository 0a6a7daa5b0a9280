-- The lines of a figure, and the shapes that they give.
use Rattle.std.specs.Prelude.{◌≡◌, ℕ, zero, suc, ◌+◌, ◌-◌, ◌/◌, ℤ, pos, ◌+ℤ◌, ◌-ℤ◌, Bool, true, false, List, [], ◌∷◌, ◌++◌, Option, Some, None, ◌⊎◌}
use Rattle.sym_geom.specs.declared.grid.TheConstants.{ROW_HEIGHT, PAD_WIDTH, WIRE_OVERHANG}
use Rattle.block_geom.specs.Rect.{Rect, moved}

-- the two supplies
pub data Supply : Type 0 where
  Vss : Supply
  Vdd : Supply

-- the name of a connector: a supply, or a port bit or signal pin by its number
pub data Name : Type 0 where
  Power : Supply → Name
  Bit : ℕ → Name

-- a wire (metal, width, whether it is upright, ends, name), a connector, a via by its lower metal, or a line without a shape
pub data Line : Type 0 where
  Segment : ℕ → ℕ → Bool → ℤ → ℤ → ℤ → ℤ → Option Name → Line
  Connector : ℕ → ℕ → ℤ → ℤ → Name → Line
  Via : ℕ → ℤ → ℤ → Line
  Blank : Line

-- a rectangle of a metal; the instance that it belongs to, if any; the line that gives it, of the figure
-- or of the instance's cell; and its name where it is a connector
pub record Shape : Type 0 where
  pub metal : ℕ
  pub rect : Rect
  pub owner : Option ℕ
  pub line : ℕ
  pub name : Option Name

-- the line from (x1, y1) to (x2, y2), widened by a and b across and longer by an overhang at both ends
abbrev pub line_rect : Bool → ℕ → ℕ → ℤ → ℤ → ℤ → ℤ → Rect
line_rect true a b x1 y1 x2 y2 =
    record { x1 = x1 -ℤ pos a; y1 = y1 -ℤ pos WIRE_OVERHANG; x2 = x2 +ℤ pos b; y2 = y2 +ℤ pos WIRE_OVERHANG }
line_rect false a b x1 y1 x2 y2 =
    record { x1 = x1 -ℤ pos WIRE_OVERHANG; y1 = y1 -ℤ pos a; x2 = x2 +ℤ pos WIRE_OVERHANG; y2 = y2 +ℤ pos b }

-- the square about a point
abbrev pub square : ℕ → ℕ → ℤ → ℤ → Rect
square a b x y = record { x1 = x -ℤ pos a; y1 = y -ℤ pos a; x2 = x +ℤ pos b; y2 = y +ℤ pos b }

-- the pad of a via
abbrev pub pad : ℤ → ℤ → Rect
pad x y = square (PAD_WIDTH / 2) (PAD_WIDTH / 2) x y

-- the shapes of line k
abbrev pub line_shapes : ℕ → Line → List Shape
line_shapes k (Segment metal width upright x1 y1 x2 y2 name) =
    record {
      metal = metal;
      rect = line_rect upright (width / 2) (width - width / 2) x1 y1 x2 y2;
      owner = None;
      line = k;
      name = name;
    } ∷ []
line_shapes k (Connector metal width x y name) =
    record { metal = metal; rect = square (width / 2) (width - width / 2) x y; owner = None; line = k; name = Some name } ∷ []
line_shapes k (Via lower x y) =
    record { metal = lower; rect = pad x y; owner = None; line = k; name = None }
    ∷ (record { metal = lower + 1; rect = pad x y; owner = None; line = k; name = None } ∷ [])
line_shapes k Blank = []

-- the shapes of lines, the first of which is line k
abbrev pub drawn_shapes : ℕ → List Line → List Shape
drawn_shapes k [] = []
drawn_shapes k (l ∷ ls) = line_shapes k l ++ drawn_shapes (suc k) ls

-- upside down within the height of a row, or as it is
abbrev pub turned : Bool → Rect → Rect
turned true r = record { x1 = r.x1; y1 = pos ROW_HEIGHT -ℤ r.y2; x2 = r.x2; y2 = pos ROW_HEIGHT -ℤ r.y1 }
turned false r = r

-- the shape s of a cell, in the instance i of it whose lower left corner lies at (x, y)
abbrev pub placed : ℕ → Bool → ℤ → ℤ → Shape → Shape
placed i flip x y s =
    record { metal = s.metal; rect = moved (turned flip s.rect) x y; owner = Some i; line = s.line; name = s.name }

-- f 0, then f 1, and so on, n in all
abbrev pub up_to : {X : Type 0} → ℕ → (ℕ → List X) → List X
up_to zero f = []
up_to (suc n) f = up_to n f ++ f n

-- x stands in the list
abbrev pub In : {X : Type 0} → X → List X → Type 0
In x [] = ⊥
In x (y ∷ ys) = (x ≡ y) ⊎ In x ys
