-- The trees of nets, and how they grow.
use Rattle.std.specs.Prelude.{ℕ, List, [], ◌∷◌, ◌++◌, Option, None, Some, nat_eq, if◌then◌else◌}
use Rattle.std.specs.List.{flat_map}
use Rattle.grid_core.specs.declared.grid.Node.{Node}

-- a first node, and paths that were added one after another, each from its target back to the tree before it
pub record Tree : Type 0 where
  pub start : Node
  pub paths : List (List Node)

-- the tree of each net, where it has begun
abbrev pub NetRoutes : Type 0
NetRoutes = ℕ → Option Tree

abbrev pub tree_paths : Option Tree → List (List Node)
tree_paths None = []
tree_paths (Some t) = t.paths

abbrev pub tree_nodes : Option Tree → List Node
tree_nodes None = []
tree_nodes (Some t) = t.start ∷ flat_map (λ path. path) t.paths

-- the tree of net k begins at a node
abbrev pub with_start : NetRoutes → ℕ → Node → NetRoutes
with_start routes k q j = if nat_eq j k then Some (record { start = q; paths = [] }) else routes j

-- it gets a path
abbrev pub grown : List Node → Option Tree → Option Tree
grown path None = None
grown path (Some t) = Some (record { start = t.start; paths = t.paths ++ path ∷ [] })

abbrev pub with_path : NetRoutes → ℕ → List Node → NetRoutes
with_path routes k path j = if nat_eq j k then grown path (routes k) else routes j
