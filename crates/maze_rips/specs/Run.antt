-- Nets that are routed one after another, where one that is stuck has another's paths torn out.
use Rattle.std.specs.Prelude.{◌≡◌, ◌≢◌, ◌⊎◌, ℕ, ◌<◌, List, [], ◌∷◌, ◌++◌, Option, None, Some, length, nat_eq, if◌then◌else◌}
use Prim.Native.Nat.{suc}
use Rattle.vlsi_base.specs.Member.{In}
use Rattle.grid_core.specs.declared.grid.Grid.{Grid}
use Rattle.grid_core.specs.declared.grid.Node.{Node}
use Rattle.grid_core.specs.Grid.{IsInGrid, IsPath, IsLeastPath}
use Rattle.grid_core.specs.Routes.{Tree, NetRoutes, tree_nodes, with_start, with_path}
use Rattle.grid_core.specs.Trees.{IsFreeFor, IsWhole, next_point}
use Rattle.nero_maze.specs.Routing.{first_alone, IsFirstTaken}
use Rattle.maze_rips.specs.declared.rip.PointRip.{PointRip}

-- what is to be routed: the grid, what is reserved for each net and the points of each, how many nets there are, and their order
pub record Problem : Type 0 where
  pub grid : Grid
  pub reserved : ℕ → List Node
  pub points : ℕ → List Node
  pub nets : ℕ
  pub order : List ℕ

-- ---- moves

-- a net's tree begins at a node, or gets a path; or the paths of a net are torn out
pub data Move : Type 0 where
  Begins : ℕ → Node → Move
  Joins : ℕ → List Node → Move
  Rips : PointRip → Move

-- net k keeps its first point alone
abbrev pub without_paths : NetRoutes → ℕ → NetRoutes
without_paths routes k j = if nat_eq j k then first_alone (routes k) else routes j

-- the trees after these moves, of which the latest stands first
abbrev pub routes_after : List Move → NetRoutes
routes_after [] j = None
routes_after (Begins k q ∷ before) j = with_start (routes_after before) k q j
routes_after (Joins k path ∷ before) j = with_path (routes_after before) k path j
routes_after (Rips r ∷ before) j = without_paths (routes_after before) r.torn j

-- the rips among them, in the order in which they were made
abbrev pub rips_among : List Move → List PointRip
rips_among [] = []
rips_among (Begins k q ∷ before) = rips_among before
rips_among (Joins k path ∷ before) = rips_among before
rips_among (Rips r ∷ before) = rips_among before ++ r ∷ []

-- ---- whose turn it is

-- the net for which the last rip was made
abbrev pub last_stuck : List PointRip → Option ℕ
last_stuck [] = None
last_stuck (r ∷ []) = Some r.net
last_stuck (r ∷ s ∷ more) = last_stuck (s ∷ more)

-- no rip was made, or that net is whole
abbrev pub IsServed : Problem → NetRoutes → Option ℕ → Type 0
IsServed p routes None = Unit {0}
IsServed p routes (Some k) = IsWhole (p.points k) (routes k)

-- Of nets that lack points: the one for which the last rip was made, and when that one is whole the first in order.
pub data HasTurn (p : Problem) (rips : List PointRip) (routes : NetRoutes) (k : ℕ) : Type 0 where
  again : last_stuck rips ≡ Some k → HasTurn p rips routes k
  next : IsServed p routes (last_stuck rips) → (earlier later : List ℕ) → p.order ≡ earlier ++ k ∷ later
      → ((j : ℕ) → In j earlier → IsWhole (p.points j) (routes j)) → HasTurn p rips routes k

-- it is net k's turn, and q is the first of its points that its tree lacks
pub record IsDue (p : Problem) (rips : List PointRip) (routes : NetRoutes) (k : ℕ) (q : Node) : Type 0 where
  pub known : k < p.nets
  pub turn : HasTurn p rips routes k
  pub lacks : next_point (p.points k) (routes k) ≡ Some q

-- ---- the rules

-- free for net k beside all other trees
abbrev pub IsFreeNow : Problem → NetRoutes → ℕ → Node → Type 0
IsFreeNow p routes k = IsFreeFor p.grid p.reserved routes p.nets k

-- free for it through them: the node is reserved for no other net
pub record IsFreePast (p : Problem) (k : ℕ) (q : Node) : Type 0 where
  pub within : IsInGrid p.grid q
  pub kept : (j : ℕ) → j < p.nets → j ≢ k → In q (p.reserved j) → ⊥

-- a path through all other trees leads to q
abbrev pub IsPathPast : Problem → NetRoutes → ℕ → Node → List Node → Type 0
IsPathPast p routes k q path = IsPath (IsFreePast p k) (tree_nodes (routes k)) q path

-- net k is due, its tree has begun, and no free path leads from there to its point q, which has this number
pub record IsStuck (p : Problem) (rips : List PointRip) (routes : NetRoutes) (k at : ℕ) (q : Node) : Type 0 where
  pub due : IsDue p rips routes k q
  pub tree : Tree
  pub begun : routes k ≡ Some tree
  pub number : suc (length tree.paths) ≡ at
  pub none : (path : List Node) → IsPath (IsFreeNow p routes k) (tree_nodes (routes k)) q path → ⊥

-- a least path through all other trees leads from net k's tree to q, and the tree of net b has the first node on it that isn't free for k
pub record IsInTheWay (p : Problem) (routes : NetRoutes) (k : ℕ) (q : Node) (b : ℕ) : Type 0 where
  pub known : b < p.nets
  pub path : List Node
  pub least : IsLeastPath (IsFreePast p k) (tree_nodes (routes k)) q path
  pub first : Node
  pub stands : IsFirstTaken (IsFreeNow p routes k) path first
  pub theirs : In first (tree_nodes (routes b))

-- The net that is due gets its next point: the first begins its tree, and to each later one leads a path that is least beside all other
-- trees. Where it is stuck, the paths of a net that is in the way are torn out.
abbrev pub IsMove : Problem → List PointRip → NetRoutes → Move → Type 0
IsMove p rips routes (Begins k q) = IsDue p rips routes k q × (routes k ≡ None)
IsMove p rips routes (Joins k path) =
    (q : Node) × IsDue p rips routes k q × IsLeastPath (IsFreeNow p routes k) (tree_nodes (routes k)) q path
IsMove p rips routes (Rips r) = (q : Node) × IsStuck p rips routes r.net r.point q × IsInTheWay p routes r.net q r.torn

abbrev pub AreMoves : Problem → List Move → Type 0
AreMoves p [] = Unit {0}
AreMoves p (m ∷ before) = IsMove p (rips_among before) (routes_after before) m × AreMoves p before

-- these rips and these trees come of such moves, from none
pub record IsRipRun (p : Problem) (rips : List PointRip) (routes : NetRoutes) : Type 0 where
  pub moves : List Move
  pub right : AreMoves p moves
  pub made : rips_among moves ≡ rips
  pub led : (k : ℕ) → routes_after moves k ≡ routes k

-- They came to a net that is stuck, and either as many rips were made as were allowed, or no path leads there through all other trees either.
pub record IsSpent (p : Problem) (allowed : ℕ) (rips : List PointRip) (routes : NetRoutes) (k at : ℕ) : Type 0 where
  pub point : Node
  pub stuck : IsStuck p rips routes k at point
  pub spent : (length rips ≡ allowed) ⊎ ((path : List Node) → IsPathPast p routes k point path → ⊥)
