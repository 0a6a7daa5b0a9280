-- Orders and rings of nodes that read each other. The nodes are the numbers below the number of lists, and the list at a
-- node's place has the nodes that it reads.
use Rattle.std.specs.Prelude.{◌≡◌, ℕ, ◌+◌, ◌-◌, ◌<◌, List, [], length, slice_index, Contains}
use Rattle.std.specs.List.{All, slice_index_or}
use Rattle.bit_order.specs.declared.outcome.Order.{Order}
use Rattle.bit_order.specs.declared.outcome.Order.TheVariants.{Sorted, Ring}

-- what a node reads; a number that is no node reads nothing
abbrev pub reads_of : List (List ℕ) → ℕ → List ℕ
reads_of reads node = slice_index_or reads node []

-- one node reads another
abbrev pub Reads : List (List ℕ) → ℕ → ℕ → Type 0
Reads reads node other = Contains (reads_of reads node) other

-- the node stands in the list before this place
abbrev pub StandsBefore : List ℕ → ℕ → ℕ → Type 0
StandsBefore nodes place node = (k : ℕ) × (k < place) × (slice_index nodes k ≡ node)

-- no node stands in the list twice
abbrev pub NoneTwice : List ℕ → Type 0
NoneTwice nodes =
    (i j : ℕ) → i < length nodes → j < length nodes → slice_index nodes i ≡ slice_index nodes j → i ≡ j

-- each node stands in the list once, behind all that it reads
pub record IsSortedOrder (reads : List (List ℕ)) (nodes : List ℕ) : Type 0 where
  pub inside : All (λ node. node < length reads) nodes
  pub once : NoneTwice nodes
  pub complete : (node : ℕ) → node < length reads → StandsBefore nodes (length nodes) node
  pub behind : (place : ℕ) → place < length nodes
      → All (StandsBefore nodes place) (reads_of reads (slice_index nodes place))

-- a way from a node back to itself: each node of the list reads the next, and the last reads the first
pub record IsRound (reads : List (List ℕ)) (nodes : List ℕ) : Type 0 where
  pub some : 0 < length nodes
  pub next : (place : ℕ) → place + 1 < length nodes
      → Reads reads (slice_index nodes place) (slice_index nodes (place + 1))
  pub first : Reads reads (slice_index nodes (length nodes - 1)) (slice_index nodes 0)

-- such a way through different nodes
pub record IsRing (reads : List (List ℕ)) (nodes : List ℕ) : Type 0 where
  pub inside : All (λ node. node < length reads) nodes
  pub once : NoneTwice nodes
  pub round : IsRound reads nodes

abbrev pub IsOrderOf : List (List ℕ) → Order → Type 0
IsOrderOf reads (Sorted nodes) = IsSortedOrder reads nodes.items
IsOrderOf reads (Ring nodes) = IsRing reads nodes.items

-- where there is an order there is no way from a node back to itself, and so no ring
abbrev pub SortedLeavesNoRing : Type 0
SortedLeavesNoRing =
    (reads : List (List ℕ)) (order nodes : List ℕ) → IsSortedOrder reads order → IsRound reads nodes → ⊥
