-- Nodes of which no two are the same.
use Rattle.std.specs.Prelude.{◌≡◌, ◌⊎◌, ℕ, List}
use Rattle.net_theory.specs.Sources.{IsNumber}
use Rattle.graph_theory.specs.Graph.{Node, fixed, inv, nand}

-- the nodes are of one kind and have the same sons; those of a gate have no order
abbrev pub IsSameNode : Node → Node → Type 0
IsSameNode (fixed b) (fixed c) = b ≡ c
IsSameNode (inv a) (inv c) = a ≡ c
IsSameNode (nand a b) (nand c d) = ((a ≡ c) × (b ≡ d)) ⊎ ((a ≡ d) × (b ≡ c))
IsSameNode _ _ = ⊥

-- no two nodes of the list are the same
abbrev pub AreShared : List Node → Type 0
AreShared nodes = (j k : ℕ) (x y : Node) → IsNumber nodes j x → IsNumber nodes k y → IsSameNode x y → j ≡ k
