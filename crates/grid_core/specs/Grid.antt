-- The nodes of a grid, the steps and vias between them, and the paths of nets.
use Rattle.std.specs.Prelude.{◌≡◌, ℕ, ◌+◌, ◌%◌, ◌<◌, ◌≤◌, Bool, List, [], ◌∷◌, nat_eq, if◌then◌else◌}
use Rattle.vlsi_base.specs.Member.{In}
use Rattle.grid_core.specs.declared.grid.Grid.{Grid}
use Rattle.grid_core.specs.declared.grid.Node.{Node}

-- wires run to the right on even metals, and up on odd ones
abbrev pub is_level : ℕ → Bool
is_level metal = nat_eq (metal % 2) 0

-- the node so many steps ahead, and the one on the next metal
abbrev pub ahead : Node → ℕ → Node
ahead p k = record {
  metal = p.metal;
  column = if is_level p.metal then p.column + k else p.column;
  row = if is_level p.metal then p.row else p.row + k;
}

abbrev pub above : Node → Node
above p = record { metal = p.metal + 1; column = p.column; row = p.row }

-- one step or via leads from p to q
pub data IsNext (p q : Node) : Type 0 where
  forth : q ≡ ahead p 1 → IsNext p q
  back : p ≡ ahead q 1 → IsNext p q
  up : q ≡ above p → IsNext p q
  down : p ≡ above q → IsNext p q

-- the node stands on one of the grid's metals, in one of its columns and rows
pub record IsInGrid (g : Grid) (p : Node) : Type 0 where
  pub low : 2 ≤ p.metal
  pub high : p.metal ≤ g.metals
  pub column : p.column < g.columns
  pub row : p.row < g.rows

-- ---- paths

-- from q over these nodes back to one of the tree, where each but the last is free
abbrev pub LeadsBack : (Node → Type 0) → List Node → Node → List Node → Type 0
LeadsBack free tree q [] = In q tree
LeadsBack free tree q (p ∷ rest) = free q × IsNext p q × LeadsBack free tree p rest

-- a path from the tree to the target, which is written first
abbrev pub IsPath : (Node → Type 0) → List Node → Node → List Node → Type 0
IsPath free tree target [] = ⊥
IsPath free tree target (q ∷ rest) = (q ≡ target) × LeadsBack free tree q rest

-- a step, which stays on its metal, costs 1, and a via 3
abbrev pub move_cost : Node → Node → ℕ
move_cost p q = if nat_eq p.metal q.metal then 1 else 3

abbrev pub cost_from : Node → List Node → ℕ
cost_from q [] = 0
cost_from q (p ∷ rest) = cost_from p rest + move_cost p q

abbrev pub cost : List Node → ℕ
cost [] = 0
cost (q ∷ rest) = cost_from q rest

-- a path than which none costs less
pub record IsLeastPath (free : Node → Type 0) (tree : List Node) (target : Node) (path : List Node) : Type 0 where
  pub leads : IsPath free tree target path
  pub least : (other : List Node) → IsPath free tree target other → cost path ≤ cost other
