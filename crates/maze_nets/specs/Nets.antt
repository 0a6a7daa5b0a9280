-- The points of nets, what is reserved for them, and how far they lie apart.
use Rattle.std.specs.Prelude.{◌≡◌, ℕ, ◌+◌, ◌-◌, min, max, Bool, true, false, List, [], ◌∷◌, ◌++◌, map, Option, None, Some, slice_get}
use Rattle.std.specs.List.{flat_map}
use Rattle.vlsi_base.specs.Member.{In, AllDifferent}
use Rattle.grid_core.specs.declared.grid.Grid.{Grid}
use Rattle.grid_core.specs.declared.grid.Node.{Node}
use Rattle.grid_core.specs.Grid.{IsInGrid, above}
use Rattle.maze_nets.specs.declared.points.NetPoints.{NetPoints}

abbrev pub port_node : Option Node → List Node
port_node None = []
port_node (Some q) = q ∷ []

-- the points of a net: its port's first
abbrev pub points_of : NetPoints → List Node
points_of n = port_node n.port ++ n.terminals.items

-- what is reserved for it: its port's node, and each terminal's with the one above
abbrev pub reserved_of : NetPoints → List Node
reserved_of n = port_node n.port ++ flat_map (λ q. q ∷ above q ∷ []) n.terminals.items

-- ---- by the numbers of nets

abbrev pub nodes_of : (NetPoints → List Node) → Option NetPoints → List Node
nodes_of f None = []
nodes_of f (Some n) = f n

abbrev pub net_points : List NetPoints → ℕ → List Node
net_points nets k = nodes_of points_of (slice_get nets k)

abbrev pub net_reserved : List NetPoints → ℕ → List Node
net_reserved nets k = nodes_of reserved_of (slice_get nets k)

-- What is reserved for a net is in the grid and for it alone, and its points differ.
pub record AreRoutable (g : Grid) (nets : List NetPoints) : Type 0 where
  pub within : (k : ℕ) (p : Node) → In p (net_reserved nets k) → IsInGrid g p
  pub alone : (j k : ℕ) (p : Node) → In p (net_reserved nets j) → In p (net_reserved nets k) → j ≡ k
  pub different : (k : ℕ) → AllDifferent (net_points nets k)

-- ---- half perimeters

abbrev pub least : ℕ → List ℕ → ℕ
least x [] = x
least x (y ∷ ys) = least (min x y) ys

abbrev pub greatest : ℕ → List ℕ → ℕ
greatest x [] = x
greatest x (y ∷ ys) = greatest (max x y) ys

-- from the least to the greatest
abbrev pub extent : List ℕ → ℕ
extent [] = 0
extent (x ∷ xs) = greatest x xs - least x xs

-- the row of a node, or its column
abbrev pub along_axis : Bool → Node → ℕ
along_axis true p = p.row
along_axis false p = p.column

-- half the perimeter of the box of some points, in columns and rows
abbrev pub half_box : List Node → ℕ
half_box points = extent (map (along_axis false) points) + extent (map (along_axis true) points)

abbrev pub half_perimeter : List NetPoints → ℕ → ℕ
half_perimeter nets k = half_box (net_points nets k)
