-- What the arrays of a router say, and what is true of them.
use Rattle.std.specs.Prelude.{ℕ, zero, suc, ◌≡◌, ◌≢◌, ◌+◌, ◌-◌, ◌<◌, ◌≤◌, List, [], ◌∷◌, map, length, Option, None, Some, true, false, cond, nat_eq, nat_lt, slice_index, slice_index_or, slice_set}
use Rattle.vlsi_base.specs.Member.{In}
use Rattle.grid_core.specs.declared.grid.Grid.{Grid}
use Rattle.grid_core.specs.declared.grid.Node.{Node}
use Rattle.grid_core.specs.Grid.{IsInGrid}
use Rattle.grid_core.specs.Numbers.{nodes, number, node_of}
use Rattle.grid_core.specs.Routes.{Tree, tree_nodes}
use Rattle.nero_maze.specs.declared.board.Board.{Board}
use Rattle.nero_maze.specs.declared.frontier.Marked.{Marked}
use Rattle.nero_maze.specs.Ways.{next}
use Rattle.nero_maze.specs.Search.{IsRoom, IsFree, IsOwn, IsIdle, Kept, LeadsTo, NoneBelow, reserved_in}
use Rattle.nero_maze.specs.Hulls.{AreHulls}
use Rattle.nero_maze.specs.Claims.{Told, Claimed}
use Rattle.nero_maze.specs.Routing.{Move, Began, Joined, routes_of, Routing}

-- the nodes after `q`, as the links tell them
abbrev pub on_to : Option ℕ → (ℕ → List ℕ) → List ℕ
on_to None more = []
on_to (Some v) more = v ∷ more v

abbrev pub follow : Grid → List ℕ → ℕ → ℕ → List ℕ
follow g links zero q = []
follow g links (suc fuel) q =
    cond (nat_lt (slice_index links q) 5)
    (on_to (next g q (slice_index links q - 1)) (follow g links fuel))
    (on_to (next g q (slice_index links q - 5)) (λ v. []))

-- The move that a node of the log tells. Its mark is 2 where its path is this node alone, and its link 9 where a tree began there.
abbrev pub move_at : Grid → List ℕ → List ℕ → List ℕ → ℕ → Move
move_at g owners links marks v =
    cond (nat_eq (slice_index marks v) 2)
    (Joined (slice_index owners v) (node_of g v ∷ []))
    (cond (nat_eq (slice_index links v) 9)
    (Began (slice_index owners v) (node_of g v))
    (Joined (slice_index owners v) (map (node_of g) (v ∷ follow g links (nodes g) v))))

abbrev pub moves_in : Grid → List ℕ → List ℕ → List ℕ → List ℕ → ℕ → List Move
moves_in g owners links marks order zero = []
moves_in g owners links marks order (suc n) = move_at g owners links marks (slice_index order n) ∷ moves_in g owners links marks order n

abbrev pub moves_of : Board → List Move
moves_of b = moves_in b.room.grid b.room.owners.items b.room.links.items b.log.marks.items b.log.order.items b.log.count

-- for whom each node is reserved
abbrev pub reserved_of : Board → List ℕ
reserved_of b = reserved_in b.room.owners.items b.reserved.items

abbrev pub routing_of : Board → Routing
routing_of b = record {
  occupied = record { grid = b.room.grid; words = b.room.owners.items };
  moves = moves_of b;
  reserved = record { grid = b.room.grid; words = reserved_of b };
}

-- a tree begins where there is none, and paths join one that has begun
abbrev pub AreBegun : List Move → Type 0
AreBegun [] = Unit {0}
AreBegun (Began k q ∷ before) = (routes_of before k ≡ None) × AreBegun before
AreBegun (Joined k path ∷ before) = ((t : Tree) × (routes_of before k ≡ Some t)) × AreBegun before

-- each hull holds the tree of its net
abbrev pub HoldTrees : Board → Type 0
HoldTrees b = AreHulls b.room.grid b.hulls.items b.room.owners.items b.room.links.items

-- what is true of the arrays between two calls
pub record IsSound (b : Board) : Type 0 where
  pub room : IsRoom b.room
  pub idle : IsIdle b.frontier.order.items b.frontier.marks.items (nodes b.room.grid)
  pub log : Kept b.log.order.items b.log.marks.items b.log.count
  pub logged : length b.log.marks.items ≡ nodes b.room.grid
  pub linked : (v : ℕ) → slice_index b.log.marks.items v ≢ 0 → slice_index b.room.links.items v ≢ 0
  pub owned : (v : ℕ) → slice_index b.room.links.items v ≢ 0 → slice_index b.room.owners.items v ≢ 4294967295
  pub told : (v : ℕ) → slice_index b.log.marks.items v ≢ 0 → slice_index b.log.marks.items v ≢ 2 → slice_index b.room.links.items v ≢ 9
      → (rest : List ℕ) × Told b.room.grid b.room.links.items v rest × (length rest ≤ nodes b.room.grid)
  pub forth : (v : ℕ) → v < nodes b.room.grid → slice_index b.room.links.items v ≢ 0
      → In (node_of b.room.grid v) (tree_nodes (routes_of (moves_of b) (slice_index b.room.owners.items v)))
  pub back : (k : ℕ) (q : Node) → In q (tree_nodes (routes_of (moves_of b) k))
      → IsInGrid b.room.grid q × IsOwn b.room.owners.items b.room.links.items k (number b.room.grid q)
  pub begun : AreBegun (moves_of b)
  pub sized : length b.reserved.items ≡ nodes b.room.grid
  pub flagged : (v : ℕ) → slice_index_or b.reserved.items v false ≡ true → slice_index b.room.owners.items v ≢ 4294967295
  pub untaken : (v : ℕ) → slice_index b.room.links.items v ≡ 0 → slice_index b.room.owners.items v ≡ slice_index (reserved_of b) v
  pub rooted : (v : ℕ) → slice_index b.room.links.items v ≡ 9 → slice_index b.log.marks.items v ≡ 1
  pub holds : HoldTrees b

-- the log got one node more
pub record Logs (v mark : ℕ) (old new : Marked) : Type 0 where
  pub kept : Kept new.order.items new.marks.items new.count
  pub order : new.order.items ≡ slice_set old.order.items old.count v
  pub marks : new.marks.items ≡ slice_set old.marks.items v mark
  pub count : new.count ≡ old.count + 1

-- the target was in the net's tree already
pub record Touches (net target cost : ℕ) (old new : Board) : Type 0 where
  pub own : IsOwn old.room.owners.items old.room.links.items net target
  pub nothing : cost ≡ 0
  pub room : new.room ≡ old.room
  pub log : Logs target 2 old.log new.log

-- it got a path that was claimed, and none is cheaper
pub record Reaches (net target cost : ℕ) (old new : Board) : Type 0 where
  pub free : IsFree old.room.owners.items net target
  pub outside : IsOwn old.room.owners.items old.room.links.items net target → ⊥
  pub room : IsRoom new.room
  pub path : (rest : List ℕ) × Claimed net target cost old.room new.room rest
  pub least : (v : ℕ) → IsOwn old.room.owners.items old.room.links.items net v → NoneBelow old.room.grid old.room.owners.items net target v cost
  pub log : Logs target 1 old.log new.log

-- there is no way
pub record IsStuck (net target : ℕ) (old new : Board) : Type 0 where
  pub outside : IsOwn old.room.owners.items old.room.links.items net target → ⊥
  pub none : IsFree old.room.owners.items net target → (v : ℕ) (back : List ℕ) (c : ℕ) → IsOwn old.room.owners.items old.room.links.items net v
      → LeadsTo old.room.grid old.room.owners.items net target v back c → ⊥
  pub room : new.room ≡ old.room
  pub log : new.log ≡ old.log
