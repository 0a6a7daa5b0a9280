-- The four ways from a node to its neighbours, by number.
use Rattle.std.specs.Prelude.{ℕ, zero, suc, ◌+◌, ◌-◌, ◌*◌, ◌/◌, ◌%◌, ◌<◌, Option, Some, None, cond, nat_eq, nat_lt}
use Rattle.grid_core.specs.declared.grid.Grid.{Grid}
use Rattle.grid_core.specs.Numbers.{plane}
use Rattle.nero_maze.specs.declared.way.Place.{Place}

-- a step costs 1 (ways 0 and 1), a via 3 (ways 2 and 3)
abbrev pub weight : ℕ → ℕ
weight zero = 1
weight (suc zero) = 1
weight (suc (suc k)) = 3

-- the way back
abbrev pub opposite : ℕ → ℕ
opposite zero = 1
opposite (suc zero) = 0
opposite (suc (suc zero)) = 3
opposite (suc (suc (suc k))) = 2

-- the number of the node on metal l + 2, in row r and column c
abbrev pub number_at : Grid → ℕ → ℕ → ℕ → ℕ
number_at g l r c = l * plane g + (r * g.columns + c)

-- One step from there on each of four ways: on even metals the column changes, on odd ones the row; then the vias.
unfoldable pub next_at : Grid → ℕ → ℕ → ℕ → ℕ → Option ℕ
next_at g l r c zero =
    cond (nat_eq (l % 2) 0)
    (cond (nat_lt (c + 1) g.columns) (Some (number_at g l r (c + 1))) None)
    (cond (nat_lt (r + 1) g.rows) (Some (number_at g l (r + 1) c)) None)
next_at g l r c (suc zero) =
    cond (nat_eq (l % 2) 0)
    (cond (nat_lt 0 c) (Some (number_at g l r (c - 1))) None)
    (cond (nat_lt 0 r) (Some (number_at g l (r - 1) c)) None)
next_at g l r c (suc (suc zero)) = cond (nat_lt (l + 1) (g.metals - 1)) (Some (number_at g (l + 1) r c)) None
next_at g l r c (suc (suc (suc k))) = cond (nat_lt 0 l) (Some (number_at g (l - 1) r c)) None

-- the neighbour of a numbered node
unfoldable pub next : Grid → ℕ → ℕ → Option ℕ
next g u k = next_at g (u / plane g) (u % plane g / g.columns) (u % plane g % g.columns) k

-- the place is one of the grid's
pub record IsPlace (g : Grid) (p : Place) : Type 0 where
  pub layer : p.layer < g.metals - 1
  pub row : p.row < g.rows
  pub column : p.column < g.columns
