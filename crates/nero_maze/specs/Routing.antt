-- What a router is seen as: who owns each node, and what it did.
use Rattle.std.specs.Prelude.{ℕ, ◌≡◌, ◌≢◌, ◌≤◌, ◌⊎◌, List, [], ◌∷◌, ◌++◌, Option, None, Some, length}
use Rattle.vlsi_base.specs.Member.{In}
use Rattle.grid_core.specs.declared.grid.Node.{Node}
use Rattle.grid_core.specs.Grid.{IsInGrid, cost, IsLeastPath}
use Rattle.grid_core.specs.Owners.{Owners, owner_of, IsFree, IsTaken}
use Rattle.grid_core.specs.Routes.{Tree, tree_nodes, with_start, with_path}
use Rattle.grid_core.specs.Shown.{tree_in}

-- a net's tree began at a node, or it got a path
pub data Move : Type 0 where
  Began : ℕ → Node → Move
  Joined : ℕ → List Node → Move

-- the trees after these moves, of which the latest stands first
abbrev pub routes_of : List Move → ℕ → Option Tree
routes_of [] k = None
routes_of (Began j q ∷ before) k = with_start (routes_of before) j q k
routes_of (Joined j path ∷ before) k = with_path (routes_of before) j path k

-- and who owned each before any tree began: what is reserved
pub record Routing : Type 0 where
  pub occupied : Owners
  pub moves : List Move
  pub reserved : Owners

-- the path of the latest move: the one that joined a tree, or the node at which one began
abbrev pub latest_path : List Move → List Node
latest_path [] = []
latest_path (Began j q ∷ before) = q ∷ []
latest_path (Joined j path ∷ before) = path

abbrev pub tree_of : Routing → ℕ → Option Tree
tree_of r net = routes_of r.moves net

-- the node is the first point of the tree, or the target of one of its paths
abbrev pub IsPoint : Option Tree → Node → Type 0
IsPoint None q = ⊥
IsPoint (Some t) q = (t.start ≡ q) ⊎ ((rest : List Node) × In (q ∷ rest) t.paths)

-- the router has these owners, and no net has a tree
pub record IsBare (o : Owners) (r : Routing) : Type 0 where
  pub occupied : r.occupied ≡ o
  pub moves : r.moves ≡ []
  pub reserved : r.reserved ≡ o

-- the net's tree began at the node
pub record Begins (net : ℕ) (node : Node) (old new : Routing) : Type 0 where
  pub moves : new.moves ≡ Began net node ∷ old.moves
  pub taken : IsTaken old.occupied net (node ∷ []) new.occupied
  pub reserved : new.reserved ≡ old.reserved

-- the net's tree got a least path to the target, over nodes that were free for it
pub record Connects (net : ℕ) (target : Node) (total : ℕ) (old new : Routing) (path : List Node) : Type 0 where
  pub least : IsLeastPath (IsFree old.occupied net) (tree_nodes (tree_of old net)) target path
  pub costs : cost path ≡ total
  pub moves : new.moves ≡ Joined net path ∷ old.moves
  pub taken : IsTaken old.occupied net path new.occupied
  pub reserved : new.reserved ≡ old.reserved

-- the nets from this number on have no tree
abbrev pub NoneFrom : ℕ → Routing → Type 0
NoneFrom nets r = (k : ℕ) → nets ≤ k → tree_of r k ≡ None

-- these are the trees of all nets, of which there are so many
pub record AreTrees (nets : ℕ) (r : Routing) (trees : List (Option Tree)) : Type 0 where
  pub size : length trees ≡ nets
  pub same : (k : ℕ) → tree_in trees k ≡ tree_of r k

-- ---- paths that are taken out

-- the first point of a tree alone
abbrev pub first_alone : Option Tree → Option Tree
first_alone None = None
first_alone (Some t) = Some (record { start = t.start; paths = [] })

-- The net's tree is its first point again. The other nodes of its paths are owned by the net for which they are reserved, or by none;
-- every other owner stays, and every other tree.
pub record TakesOut (net : ℕ) (old new : Routing) : Type 0 where
  pub tree : tree_of new net ≡ first_alone (tree_of old net)
  pub trees : (k : ℕ) → k ≢ net → tree_of new k ≡ tree_of old k
  pub grid : new.occupied.grid ≡ old.occupied.grid
  pub left : (p : Node) → In p (tree_nodes (tree_of old net)) → (In p (tree_nodes (tree_of new net)) → ⊥)
      → owner_of new.occupied p ≡ owner_of old.reserved p
  pub stays : (p : Node) → IsInGrid old.occupied.grid p → (In p (tree_nodes (tree_of old net)) → In p (tree_nodes (tree_of new net)))
      → owner_of new.occupied p ≡ owner_of old.occupied p
  pub reserved : new.reserved ≡ old.reserved

-- ---- what stands in a way

-- the first node of a path, counted from the tree at its end, that isn't free
pub record IsFirstTaken (free : Node → Type 0) (path : List Node) (q : Node) : Type 0 where
  pub ahead : List Node
  pub behind : List Node
  pub split : path ≡ ahead ++ q ∷ behind
  pub clear : (p : Node) → In p behind → free p
  pub taken : free q → ⊥

-- A least path leads to the target through the trees of other nets, over nodes that are reserved for none of them; and the tree of net b has
-- the first node on it that isn't free.
pub record Blocks (r : Routing) (net : ℕ) (target : Node) (b : ℕ) : Type 0 where
  pub path : List Node
  pub least : IsLeastPath (IsFree r.reserved net) (tree_nodes (tree_of r net)) target path
  pub first : Node
  pub stands : IsFirstTaken (IsFree r.occupied net) path first
  pub theirs : In first (tree_nodes (tree_of r b))
