-- The plan of a drawing: which net owns which place of the grid. A place is a metal above the first, a column and a row.
use Rattle.std.proofs.Common.{◌≡◌, ℕ, ◌+◌, ◌*◌, ◌<◌, ◌≤◌, ◌⊎◌, List, Some, None}
use Rattle.std.specs.Prelude.{pos, ◌+ℤ◌, ◌-ℤ◌, ◌≤ℤ◌, slice_get}
use Rattle.block_geom.specs.Rect.{Rect}
use Rattle.block_geom.specs.Figure.{Supply, Shape, Name, line_shapes, In}
use Rattle.block_geom.specs.Block.{Block, cell_shapes, Net, PowerNet, Signal, Tagged, at_x, pin_column, pin_row, in_block, rail_y, port_net_of, AtPort, Exists}
use Rattle.block_geom.specs.Tracks.{strap_column}

-- a set of places for each net
abbrev pub Plan : Type 1
Plan = ℕ → ℕ → ℕ → ℕ → Type 0

-- r is the box of columns c1 to c2 and rows r1 to r2, grown by 100
pub record IsBox (r : Rect) (c1 r1 c2 r2 : ℕ) : Type 0 where
  pub x1 : r.x1 ≡ pos (500 * c1) -ℤ pos 100
  pub y1 : r.y1 ≡ pos (500 * r1) -ℤ pos 100
  pub x2 : r.x2 ≡ pos (500 * c2) +ℤ pos 100
  pub y2 : r.y2 ≡ pos (500 * r2) +ℤ pos 100
  pub columns : c1 ≤ c2
  pub rows : r1 ≤ r2

-- above metal 1: a box of places that net n owns
pub record IsOwned (owns : Plan) (n : ℕ) (s : Shape) : Type 0 where
  pub high : 2 ≤ s.metal
  pub c1 : ℕ
  pub r1 : ℕ
  pub c2 : ℕ
  pub r2 : ℕ
  pub start : 3 ≤ c1
  pub box : IsBox s.rect c1 r1 c2 r2
  pub owned : (c r : ℕ) → c1 ≤ c → c ≤ c2 → r1 ≤ r → r ≤ r2 → owns s.metal c r n

-- on metal 1: the pad at the access node of a pin on net n
pub record IsPinPad (b : Block) (n : ℕ) (s : Shape) : Type 0 where
  pub metal : s.metal ≡ 1
  pub i : ℕ
  pub p : ℕ
  pub instance : i < b.count
  pub pin : p < (b.cell i).pins
  pub net : b.net i p ≡ n
  pub box : IsBox s.rect (pin_column b i p) (pin_row b i p) (pin_column b i p) (pin_row b i p)

-- the middle of a rail of the supply u
pub record IsCentre (b : Block) (u : Supply) (y : ℕ) : Type 0 where
  pub row : ℕ
  pub within : row < b.rows
  pub is : y ≡ rail_y row u

-- above metal 1, at the left of the grid: a shape of the strap of a supply, from one rail to another
pub record IsOnStrap (b : Block) (u : Supply) (s : Shape) : Type 0 where
  pub high : 2 ≤ s.metal
  pub from : ℕ
  pub to : ℕ
  pub from_rail : IsCentre b u from
  pub to_rail : IsCentre b u to
  pub order : from ≤ to
  pub x1 : s.rect.x1 ≡ at_x (strap_column u) -ℤ pos 100
  pub x2 : s.rect.x2 ≡ at_x (strap_column u) +ℤ pos 100
  pub y1 : s.rect.y1 ≡ pos from -ℤ pos 100
  pub y2 : s.rect.y2 ≡ pos to +ℤ pos 100

-- as high as a rail, over x 500
pub record IsFull (y : ℕ) (r : Rect) : Type 0 where
  pub x1 : r.x1 ≤ℤ pos 500
  pub x2 : pos 500 ≤ℤ r.x2
  pub wide : (r.x1 +ℤ pos 200) ≤ℤ r.x2
  pub y1 : r.y1 ≡ pos y -ℤ pos 300
  pub y2 : r.y2 ≡ pos y +ℤ pos 300

-- a pad of the strap on a rail
pub record IsRailPad (u : Supply) (y : ℕ) (r : Rect) : Type 0 where
  pub x1 : r.x1 ≡ at_x (strap_column u) -ℤ pos 100
  pub x2 : r.x2 ≡ at_x (strap_column u) +ℤ pos 100
  pub y1 : r.y1 ≡ pos y -ℤ pos 100
  pub y2 : r.y2 ≡ pos y +ℤ pos 100

-- on metal 1: on a rail of the supply u
pub record IsOnRail (b : Block) (u : Supply) (s : Shape) : Type 0 where
  pub metal : s.metal ≡ 1
  pub y : ℕ
  pub rail : IsCentre b u y
  pub size : IsFull y s.rect ⊎ IsRailPad u y s.rect

pub data FitsShape (b : Block) (owns : Plan) (s : Shape) : Net → Type 0 where
  above : {n : ℕ} → IsOwned owns n s → FitsShape b owns s (Signal n)
  on_pin : {n : ℕ} → IsPinPad b n s → FitsShape b owns s (Signal n)
  on_strap : {u : Supply} → IsOnStrap b u s → FitsShape b owns s (PowerNet u)
  on_rail : {u : Supply} → IsOnRail b u s → FitsShape b owns s (PowerNet u)

-- the line is drawn for its net as the plan has it
pub record Fits (b : Block) (owns : Plan) (t : Tagged) : Type 0 where
  pub shapes : (k : ℕ) (s : Shape) → In s (line_shapes k t.line) → FitsShape b owns s t.net
  pub names : (k : ℕ) (s : Shape) (m : Name) → In s (line_shapes k t.line) → s.name ≡ Some m → port_net_of b m ≡ t.net
  pub ports : (k : ℕ) (s : Shape) (m : Name) → In s (line_shapes k t.line) → s.name ≡ Some m → Exists b (AtPort m)

-- a plan in which no place has two nets, and lines that fit it
pub record IsPlan (b : Block) (owns : Plan) (ts : List Tagged) : Type 0 where
  pub one_net : (m c r n k : ℕ) → owns m c r n → owns m c r k → n ≡ k
  pub fits : (t : Tagged) → In t ts → Fits b owns t

-- within the two strips at the foot of row k
pub record IsInFoot (k : ℕ) (r : Rect) : Type 0 where
  pub low : pos (5000 * k) ≤ℤ (r.y1 +ℤ pos 600)
  pub high : r.y2 ≤ℤ pos (5000 * k + 600)
  pub tall : r.y1 ≤ℤ r.y2

-- ---- what a shape of the figure is

-- the shape of instance i that comes from a shape of its cell
pub record IsOfInstance (b : Block) (s : Shape) : Type 0 where
  pub i : ℕ
  pub instance : i < b.count
  pub inner : Shape
  pub within : In inner (cell_shapes (b.cell i))
  pub is : s ≡ in_block b i inner

pub record IsOfLine (b : Block) (owns : Plan) (ts : List Tagged) (s : Shape) : Type 0 where
  pub tagged : Tagged
  pub at : slice_get ts s.line ≡ Some tagged
  pub owner : s.owner ≡ None
  pub fits : FitsShape b owns s tagged.net
  pub names : (m : Name) → s.name ≡ Some m → port_net_of b m ≡ tagged.net
  pub ports : (m : Name) → s.name ≡ Some m → Exists b (AtPort m)

pub data Kind (b : Block) (owns : Plan) (ts : List Tagged) (s : Shape) : Type 0 where
  of_line : IsOfLine b owns ts s → Kind b owns ts s
  of_instance : IsOfInstance b s → Kind b owns ts s
