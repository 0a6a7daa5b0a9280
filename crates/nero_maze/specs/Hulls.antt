-- What a way from a node to a part of the grid costs at the least.
use Rattle.std.specs.Prelude.{ℕ, ◌≡◌, ◌+◌, ◌-◌, ◌*◌, ◌/◌, ◌%◌, List, Some, slice_get}
use Rattle.grid_core.specs.declared.grid.Grid.{Grid}
use Rattle.grid_core.specs.Numbers.{plane}
use Rattle.nero_maze.specs.declared.hull.Extent.{Extent}
use Rattle.nero_maze.specs.declared.hull.Hull.{Hull}
use Rattle.nero_maze.specs.Search.{IsOwn}

-- how far a number is from the nearest of these
abbrev pub away : Extent → ℕ → ℕ
away e x = (e.least - x) + (x - e.most)

-- columns and rows are a step apart, and metals a via
abbrev pub far_at : Hull → ℕ → ℕ → ℕ → ℕ
far_at h l r c = away h.columns c + away h.rows r + 3 * away h.layers l

unfoldable pub far : Grid → Hull → ℕ → ℕ
far g h u = far_at h (u / plane g) (u % plane g / g.columns) (u % plane g % g.columns)

-- the hull holds each node of the net's tree
abbrev pub Holds : Grid → Hull → List ℕ → List ℕ → ℕ → Type 0
Holds g h owners links net = (v : ℕ) → IsOwn owners links net v → far g h v ≡ 0

-- each of them holds the tree of the net with its number
abbrev pub AreHulls : Grid → List Hull → List ℕ → List ℕ → Type 0
AreHulls g hulls owners links = (k : ℕ) (hull : Hull) → slice_get hulls k ≡ Some hull → Holds g hull owners links k
