-- Cells by numbers, and a block of placed instances with its nets.
use Rattle.std.specs.Prelude.{◌≡◌, ℕ, zero, suc, ◌+◌, ◌-◌, ◌*◌, ◌<◌, ◌≤◌, ◌/◌, ℤ, pos, ◌+ℤ◌, ◌-ℤ◌, ◌≤ℤ◌, Bool, true, false, List, ◌++◌, map, Option, Some, None, ◌⊎◌}
use Rattle.sym_geom.specs.declared.grid.TheConstants.{PITCH, ROW_HEIGHT, RAIL_WIDTH, RAIL_OVERHANG, LEAST_GAP, VSS_RAIL_Y, VDD_RAIL_Y, VDD_STRIP_Y, FIRST_CELL_X, RAIL_INSET, CELL_MARGIN}
use Rattle.block_geom.specs.Rect.{Rect, IsRect, Within}
use Rattle.block_geom.specs.Figure.{Supply, Vss, Vdd, Name, Power, Bit, Line, Shape, drawn_shapes, placed, pad, up_to, In}
use Rattle.block_geom.specs.Joined.{Joined}

-- a cell: its shapes, and for each signal pin the grid point at which it is reached
pub record Cell : Type 0 where
  pub width : ℕ  -- in columns
  pub shapes : List Shape
  pub pins : ℕ  -- the signal pins, Bit 0 and so on
  pub column : ℕ → ℕ  -- of the access node of a pin
  pub row : ℕ → ℕ

-- the shapes of a cell
abbrev pub cell_shapes : Cell → List Shape
cell_shapes c = c.shapes

-- a net: that of a supply, or one of the others by its number
pub data Net : Type 0 where
  PowerNet : Supply → Net
  Signal : ℕ → Net

-- Placed instances and the nets of their pins and of the ports, by numbers.
pub record Block : Type 0 where
  pub count : ℕ
  pub cell : ℕ → Cell
  pub column : ℕ → ℕ  -- of the instance's corner, a column of the grid
  pub row : ℕ → ℕ  -- of the instance: which row of cells
  pub net : ℕ → ℕ → ℕ  -- of pin p of instance i
  pub ports : ℕ
  pub port_net : ℕ → ℕ
  pub nets : ℕ
  pub many : ℕ → Bool  -- the net has a track: a port alone has none
  pub rows : ℕ
  pub columns : ℕ  -- of the widest row

-- within a cell of w columns, away from its neighbours
pub record IsInside (w : ℕ) (r : Rect) : Type 0 where
  pub left : pos CELL_MARGIN ≤ℤ r.x1
  pub right : (r.x2 +ℤ pos CELL_MARGIN) ≤ℤ pos (PITCH * w)
  pub low : pos 0 ≤ℤ r.y1
  pub high : r.y2 ≤ℤ pos ROW_HEIGHT

-- in the strip at the foot or at the top of a cell of w columns
pub record IsInStrip (w from to : ℕ) (r : Rect) : Type 0 where
  pub left : (pos 0 -ℤ pos RAIL_OVERHANG) ≤ℤ r.x1
  pub right : r.x2 ≤ℤ pos (PITCH * w + RAIL_OVERHANG)
  pub low : pos from ≤ℤ r.y1
  pub high : r.y2 ≤ℤ pos to

-- the shape s of the cell is joined to its pin n
pub record IsJoinedTo (c : Cell) (s : Shape) (n : Name) : Type 0 where
  pub pin : Shape
  pub within : In pin (cell_shapes c)
  pub named : pin.name ≡ Some n
  pub joined : Joined (cell_shapes c) pin s

-- the square about the access node of pin p lies within one of the pin's rectangles
pub record Access (c : Cell) (p : ℕ) : Type 0 where
  pub pin : Shape
  pub within : In pin (cell_shapes c)
  pub named : pin.name ≡ Some (Bit p)
  pub holds : Within (pad (pos (PITCH * c.column p)) (pos (PITCH * c.row p))) pin.rect

-- a connector of the supply over the width of its strip
pub record HasStrip (c : Cell) (s : Supply) (from to : ℕ) : Type 0 where
  pub pin : Shape
  pub within : In pin (cell_shapes c)
  pub named : pin.name ≡ Some (Power s)
  pub left : pin.rect.x1 ≤ℤ pos RAIL_INSET
  pub right : pos (PITCH * c.width) ≤ℤ (pin.rect.x2 +ℤ pos RAIL_INSET)
  pub low : pin.rect.y1 ≤ℤ pos from
  pub high : pos to ≤ℤ pin.rect.y2

-- the checks on a cell
pub record Passes (c : Cell) : Type 0 where
  pub wide : 1 ≤ c.width
  pub drawn : (s : Shape) → In s (cell_shapes c) → s.owner ≡ None
  pub metal : (s : Shape) → In s (cell_shapes c) → s.metal ≡ 1
  pub order : (s : Shape) → In s (cell_shapes c) → IsRect s.rect
  pub vss : HasStrip c Vss 0 RAIL_WIDTH
  pub vdd : HasStrip c Vdd VDD_STRIP_Y ROW_HEIGHT
  pub access : (p : ℕ) → p < c.pins → Access c p
  pub names : (s : Shape) (p : ℕ) → In s (cell_shapes c) → s.name ≡ Some (Bit p) → p < c.pins
  pub apart : (s : Shape) (n m : Name) → IsJoinedTo c s n → IsJoinedTo c s m → n ≡ m
  pub inside : (s : Shape) → In s (cell_shapes c)
      → IsInside c.width s.rect ⊎ IsInStrip c.width 0 RAIL_WIDTH s.rect ⊎ IsInStrip c.width VDD_STRIP_Y ROW_HEIGHT s.rect
  pub off_vss : (s : Shape) → In s (cell_shapes c) → IsJoinedTo c s (Power Vss) ⊎ (pos (RAIL_WIDTH + LEAST_GAP) ≤ℤ s.rect.y1)
  pub off_vdd : (s : Shape) → In s (cell_shapes c) → IsJoinedTo c s (Power Vdd) ⊎ (s.rect.y2 ≤ℤ pos (VDD_STRIP_Y - LEAST_GAP))

-- with private tracks
abbrev pub HasOwnColumns : Cell → Type 0
HasOwnColumns c = (p q : ℕ) → p < c.pins → q < c.pins → c.column p ≡ c.column q → p ≡ q

-- the column of the grid at which rows of cells begin
abbrev pub first_column : ℕ
first_column = FIRST_CELL_X / PITCH

-- placed cells that pass
pub record IsSound (b : Block) : Type 0 where
  pub cells : (i : ℕ) → i < b.count → Passes (b.cell i)
  pub start : (i : ℕ) → i < b.count → first_column ≤ b.column i
  pub end : (i : ℕ) → i < b.count → b.column i + (b.cell i).width ≤ first_column + b.columns
  pub row : (i : ℕ) → i < b.count → b.row i < b.rows
  pub abut : (i j : ℕ) → i < b.count → j < b.count → b.row i ≡ b.row j
      → (i ≡ j) ⊎ (b.column i + (b.cell i).width ≤ b.column j) ⊎ (b.column j + (b.cell j).width ≤ b.column i)

-- ---- where things lie

-- a line with the net that it is drawn for
pub record Tagged : Type 0 where
  pub net : Net
  pub line : Line

-- the coordinate of a column or row
abbrev pub at_x : ℕ → ℤ
at_x c = pos (PITCH * c)

-- the supply that isn't this one
abbrev pub other : Supply → Supply
other Vss = Vdd
other Vdd = Vss

-- the supply at the foot of row j, and at the top of the row below
abbrev pub supply_at : ℕ → Supply
supply_at zero = Vss
supply_at (suc j) = other (supply_at j)

abbrev pub is_vdd : Supply → Bool
is_vdd Vss = false
is_vdd Vdd = true

-- row j stands upside down
abbrev pub flip_of : ℕ → Bool
flip_of j = is_vdd (supply_at j)

-- the middle of the strip of supply u in row j, whose foot has the supply f
abbrev pub strip_y : Supply → Supply → ℕ → ℕ
strip_y Vss Vss j = ROW_HEIGHT * j + VSS_RAIL_Y
strip_y Vss Vdd j = ROW_HEIGHT * j + VDD_RAIL_Y
strip_y Vdd Vss j = ROW_HEIGHT * j + VDD_RAIL_Y
strip_y Vdd Vdd j = ROW_HEIGHT * j + VSS_RAIL_Y

-- the middle of the rail of supply u in row j
abbrev pub rail_y : ℕ → Supply → ℕ
rail_y j u = strip_y (supply_at j) u j

-- column and row of pin p of instance i in the block
abbrev pub pin_column : Block → ℕ → ℕ → ℕ
pin_column b i p = b.column i + (b.cell i).column p

-- a row of a cell, as it lies once the cell is turned
abbrev pub turned_row : Bool → ℕ → ℕ
turned_row true r = ROW_HEIGHT / PITCH - r
turned_row false r = r

abbrev pub pin_row : Block → ℕ → ℕ → ℕ
pin_row b i p = ROW_HEIGHT / PITCH * b.row i + turned_row (flip_of (b.row i)) ((b.cell i).row p)

-- a shape of the cell of instance i, where it lies in the block
abbrev pub in_block : Block → ℕ → Shape → Shape
in_block b i s = placed i (flip_of (b.row i)) (at_x (b.column i)) (pos (ROW_HEIGHT * b.row i)) s

-- the shapes of all instances
abbrev pub instance_shapes : Block → List Shape
instance_shapes b = up_to b.count (λ i. map (in_block b i) (cell_shapes (b.cell i)))

-- the shapes of a block that is drawn by these lines
abbrev pub shapes : Block → List Tagged → List Shape
shapes b ls = drawn_shapes 0 (map (λ t. t.line) ls) ++ instance_shapes b

-- ---- the claim

-- a port, or a pin of an instance
pub data Terminal : Type 0 where
  AtPort : Name → Terminal
  AtPin : ℕ → Name → Terminal

-- t is a terminal of the block
abbrev pub Exists : Block → Terminal → Type 0
Exists b (AtPort (Power s)) = Unit {0}
Exists b (AtPort (Bit k)) = k < b.ports
Exists b (AtPin i (Power s)) = i < b.count
Exists b (AtPin i (Bit p)) = (i < b.count) × (p < (b.cell i).pins)

-- the net of a pin, of a port, and of a terminal
abbrev pub pin_net : Block → ℕ → Name → Net
pin_net b i (Power s) = PowerNet s
pin_net b i (Bit p) = Signal (b.net i p)

abbrev pub port_net_of : Block → Name → Net
port_net_of b (Power s) = PowerNet s
port_net_of b (Bit k) = Signal (b.port_net k)

abbrev pub net_of : Block → Terminal → Net
net_of b (AtPort n) = port_net_of b n
net_of b (AtPin i n) = pin_net b i n

-- the shape s is a connector of the terminal
abbrev pub IsOf : Terminal → Shape → Type 0
IsOf (AtPort n) s = (s.owner ≡ None) × (s.name ≡ Some n)
IsOf (AtPin i n) s = (s.owner ≡ Some i) × (s.name ≡ Some n)

-- two terminals have joined shapes
pub record AreJoined (xs : List Shape) (t u : Terminal) : Type 0 where
  pub from : Shape
  pub to : Shape
  pub from_in : In from xs
  pub to_in : In to xs
  pub from_of : IsOf t from
  pub to_of : IsOf u to
  pub joined : Joined xs from to

-- two terminals are joined exactly where they have one net, or are the same
pub record JoinsAsNets (b : Block) (xs : List Shape) : Type 0 where
  pub only : (t u : Terminal) → Exists b t → Exists b u → AreJoined xs t u → net_of b t ≡ net_of b u
  pub all : (t u : Terminal) → Exists b t → Exists b u → net_of b t ≡ net_of b u → AreJoined xs t u

-- the terminal of this name of an instance, or of the block
abbrev pub terminal_at : Option ℕ → Name → Terminal
terminal_at None m = AtPort m
terminal_at (Some i) m = AtPin i m
