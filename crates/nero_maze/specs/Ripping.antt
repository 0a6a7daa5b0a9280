-- Paths that are taken out, and nets that stand in a way: what the arrays become and say.
use Rattle.std.specs.Prelude.{ℕ, zero, suc, ◌≡◌, ◌≢◌, ◌+◌, ◌-◌, ◌%◌, ◌<◌, ◌⊎◌, Bool, true, length, List, [], ◌∷◌, Option, Some, cond, filter, nat_eq, not, slice_index, slice_set}
use Rattle.grid_core.specs.Numbers.{nodes}
use Rattle.nero_maze.specs.declared.board.Board.{Board}
use Rattle.nero_maze.specs.declared.frontier.Marked.{Marked}
use Rattle.nero_maze.specs.declared.frontier.Room.{Room}
use Rattle.nero_maze.specs.Search.{IsRoom, IsFree, IsOwn, Kept, LeadsTo, NoneBelow}
use Rattle.nero_maze.specs.Board.{reserved_of}
use Rattle.nero_maze.specs.Ways.{next}

-- ---- a net without its paths

-- the node is in the net's tree, which didn't begin there
pub record IsOnPath (net : ℕ) (r : Room) (v : ℕ) : Type 0 where
  pub linked : slice_index r.links.items v ≢ 0
  pub joined : slice_index r.links.items v ≢ 9
  pub own : slice_index r.owners.items v ≡ net

-- such nodes are in no tree any more, and have the owners that they had; the others stay
pub record IsFreed (net : ℕ) (reserved : List ℕ) (old new : Room) : Type 0 where
  pub room : IsRoom new
  pub grid : new.grid ≡ old.grid
  pub freed : (v : ℕ) → IsOnPath net old v → (slice_index new.owners.items v ≡ slice_index reserved v) × (slice_index new.links.items v ≡ 0)
  pub others : (v : ℕ) → (IsOnPath net old v → ⊥)
      → (slice_index new.owners.items v ≡ slice_index old.owners.items v) × (slice_index new.links.items v ≡ slice_index old.links.items v)

-- the next node on the path of a node, as its link tells it
abbrev pub onward : Room → ℕ → Option ℕ
onward r v = next r.grid v ((slice_index r.links.items v - 1) % 4)

-- Some of them are in no tree any more: all that are ends, and with each of them the next one on its path.
pub record IsFreedFrom (net : ℕ) (reserved : List ℕ) (ends : ℕ → Type 0) (old new : Room) : Type 0 where
  pub room : IsRoom new
  pub grid : new.grid ≡ old.grid
  pub either : (v : ℕ) → ((slice_index new.owners.items v ≡ slice_index old.owners.items v) × (slice_index new.links.items v ≡ slice_index old.links.items v))
      ⊎ (IsOnPath net old v × (slice_index new.owners.items v ≡ slice_index reserved v) × (slice_index new.links.items v ≡ 0))
  pub ended : (v : ℕ) → ends v → IsOnPath net old v → slice_index new.links.items v ≡ 0
  pub closed : (v w : ℕ) → IsOnPath net old v → slice_index new.links.items v ≡ 0 → onward old v ≡ Some w → IsOnPath net old w
      → slice_index new.links.items w ≡ 0

-- one node, if it is such a one
pub record IsFreedAt (net : ℕ) (reserved : List ℕ) (v : ℕ) (old new : Room) : Type 0 where
  pub grid : new.grid ≡ old.grid
  pub freed : IsOnPath net old v
      → (new.owners.items ≡ slice_set old.owners.items v (slice_index reserved v)) × (new.links.items ≡ slice_set old.links.items v 0)
  pub same : (IsOnPath net old v → ⊥) → new ≡ old

-- the first n of the log, the latest first
abbrev pub entries : List ℕ → ℕ → List ℕ
entries order zero = []
entries order (suc n) = slice_index order n ∷ entries order n

-- an entry stays, if it is another net's, or tells where the tree began
abbrev pub stays : ℕ → Room → ℕ → Bool
stays net r v = cond (nat_eq (slice_index r.owners.items v) net) (nat_eq (slice_index r.links.items v) 9) true

-- the node is in a tree
abbrev pub is_linked : Room → ℕ → Bool
is_linked r v = not (nat_eq (slice_index r.links.items v) 0)

-- one entry goes, or moves to the place behind those that stay
pub record IsSifted (left : ℕ → Bool) (at count : ℕ) (old new : Marked) (result : ℕ) : Type 0 where
  pub held : new.count ≡ old.count
  pub goes : left (slice_index old.order.items at) ≢ true
      → (result ≡ count) × (new.order.items ≡ old.order.items) × (new.marks.items ≡ slice_set old.marks.items (slice_index old.order.items at) 0)
  pub keeps : left (slice_index old.order.items at) ≡ true
      → (result ≡ count + 1) × (new.order.items ≡ slice_set old.order.items count (slice_index old.order.items at)) × (new.marks.items ≡ old.marks.items)

-- the log has the entries that stay alone, in the order in which they were
pub record IsShorter (left : ℕ → Bool) (old new : Marked) : Type 0 where
  pub kept : Kept new.order.items new.marks.items new.count
  pub size : length new.marks.items ≡ length old.marks.items
  pub same : (v : ℕ) → left v ≡ true → slice_index new.marks.items v ≡ slice_index old.marks.items v
  pub gone : (v : ℕ) → left v ≢ true → slice_index new.marks.items v ≡ 0
  pub entries : entries new.order.items new.count ≡ filter left (entries old.order.items old.count)

pub record IsTorn (net : ℕ) (old new : Board) : Type 0 where
  pub freed : IsFreed net (reserved_of old) old.room new.room
  pub log : IsShorter (stays net old.room) old.log new.log
  pub frontier : new.frontier ≡ old.frontier
  pub reserved : new.reserved ≡ old.reserved

-- ---- what stands in a way

abbrev pub AreFree : List ℕ → ℕ → List ℕ → Type 0
AreFree owners net [] = Unit {0}
AreFree owners net (v ∷ more) = IsFree owners net v × AreFree owners net more

-- b owns the first of these nodes that isn't free
abbrev pub FirstTaken : List ℕ → ℕ → ℕ → List ℕ → Type 0
FirstTaken owners net b [] = ⊥
FirstTaken owners net b (v ∷ more) =
    ((IsFree owners net v → ⊥) × (slice_index owners v ≡ b)) ⊎ (IsFree owners net v × FirstTaken owners net b more)

-- no way leads from the net's tree to the target over the nodes that are free by these words
abbrev pub NoWay : Board → List ℕ → ℕ → ℕ → Type 0
NoWay b words net target =
    IsFree words net target → (v : ℕ) (back : List ℕ) (c : ℕ) → IsOwn b.room.owners.items b.room.links.items net v
    → LeadsTo b.room.grid words net target v back c → ⊥

-- one leads there through the trees of other nets, and none is cheaper; another net's tree has the first node on it that isn't free
pub record IsBlocked (b : Board) (net target other : ℕ) : Type 0 where
  pub passable : IsFree (reserved_of b) net target
  pub from : ℕ
  pub back : List ℕ
  pub cost : ℕ
  pub within : from < nodes b.room.grid
  pub own : IsOwn b.room.owners.items b.room.links.items net from
  pub leads : LeadsTo b.room.grid (reserved_of b) net target from back cost
  pub least : (v : ℕ) → IsOwn b.room.owners.items b.room.links.items net v → NoneBelow b.room.grid (reserved_of b) net target v cost
  pub taken : FirstTaken b.room.owners.items net other (from ∷ back)
