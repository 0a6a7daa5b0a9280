-- What a search by levels knows of the nodes that it has reached.
use Rattle.std.specs.Prelude.{ℕ, zero, suc, ◌≡◌, ◌≢◌, ◌+◌, ◌<◌, ◌≤◌, ◌⊎◌, Bool, List, [], ◌∷◌, cond, length, not, Some, nat_eq, slice_index}
use Rattle.grid_core.specs.declared.grid.Grid.{Grid}
use Rattle.grid_core.specs.Numbers.{nodes}
use Rattle.nero_maze.specs.declared.frontier.Field.{Field}
use Rattle.nero_maze.specs.declared.frontier.Room.{Room}
use Rattle.nero_maze.specs.declared.frontier.Words.{Words}
use Rattle.nero_maze.specs.Ways.{weight, opposite, next}

-- ---- for whom nodes are free

-- whether a node with this word has an owner
abbrev pub is_owned : ℕ → Bool
is_owned word = not (nat_eq word 4294967295)

-- for whom nodes are reserved: flagged ones for their owner, and others for nobody
unfoldable pub reserved_in : List ℕ → List Bool → List ℕ
reserved_in [] flags = []
reserved_in (word ∷ owners) [] = 4294967295 ∷ reserved_in owners []
reserved_in (word ∷ owners) (flag ∷ flags) = cond flag word 4294967295 ∷ reserved_in owners flags

-- the owners, or where a search leads past trees, those for whom nodes are reserved
abbrev pub words_in : Words → List ℕ
words_in w = cond w.past (reserved_in w.owners.now.items w.reserved.now.items) w.owners.now.items

-- free for the net: without an owner, or the net's own
abbrev pub IsFree : List ℕ → ℕ → ℕ → Type 0
IsFree owners net v = (slice_index owners v ≡ 4294967295) ⊎ (slice_index owners v ≡ net)

-- The nodes `v ∷ back` lead from `v` to the target, at the cost `c`, over free nodes.
abbrev pub LeadsTo : Grid → List ℕ → ℕ → ℕ → ℕ → List ℕ → ℕ → Type 0
LeadsTo g owners net target v [] c = (v ≡ target) × (c ≡ 0)
LeadsTo g owners net target v (u ∷ back) c =
    IsFree owners net v × ((k : ℕ) × (k < 4) × (next g u k ≡ Some v)
    × ((b : ℕ) × LeadsTo g owners net target u back b × (c ≡ b + weight k)))

-- none from `v` costs less than `e`
abbrev pub NoneBelow : Grid → List ℕ → ℕ → ℕ → ℕ → ℕ → Type 0
NoneBelow g owners net target v e = (back : List ℕ) (b : ℕ) → LeadsTo g owners net target v back b → e ≤ b

-- The same path as the marks tell it: one more than the way by which each node was reached.
abbrev pub Trace : Grid → List ℕ → ℕ → List ℕ → ℕ → ℕ → List ℕ → ℕ → Type 0
Trace g owners net marks target v [] c = (slice_index marks v ≡ 5) × (v ≡ target) × (c ≡ 0)
Trace g owners net marks target v (u ∷ back) c =
    IsFree owners net v × ((k : ℕ) × (k < 4) × (next g u k ≡ Some v)
    × (slice_index marks v ≡ k + 1) × (next g v (opposite k) ≡ Some u)
    × ((b : ℕ) × Trace g owners net marks target u back b × (c ≡ b + weight k)))

-- how many nodes have no mark
abbrev pub zeros : List ℕ → ℕ
zeros [] = 0
zeros (zero ∷ xs) = suc (zeros xs)
zeros (suc x ∷ xs) = zeros xs

-- the first `n` of `order` are the marked nodes
pub record Kept (order marks : List ℕ) (n : ℕ) : Type 0 where
  pub same : length order ≡ length marks
  pub full : zeros marks + n ≡ length marks
  pub listed : (i : ℕ) → i < n → slice_index order i < length marks
  pub marked : (i : ℕ) → i < n → slice_index marks (slice_index order i) ≢ 0
  pub found : (v : ℕ) → slice_index marks v ≢ 0 → (i : ℕ) × (i < n) × (slice_index order i ≡ v)
  pub apart : (i j : ℕ) → i < j → j < n → slice_index order i ≢ slice_index order j

-- Entry `i` was reached at this level, from an entry of from..to, on a way whose cost and the bound `h` there are `rise` more than the
-- bound at that entry: its mark is nine more than the way.
abbrev pub Reached : Grid → List ℕ → ℕ → (ℕ → ℕ) → ℕ → List ℕ → List ℕ → ℕ → ℕ → ℕ → Type 0
Reached g owners net h rise order marks from to i =
    (j : ℕ) × (from ≤ j) × (j < to) × ((k : ℕ) × (k < 4)
    × (slice_index marks (slice_index order i) ≡ k + 9)
    × (next g (slice_index order j) k ≡ Some (slice_index order i))
    × (next g (slice_index order i) (opposite k) ≡ Some (slice_index order j))
    × IsFree owners net (slice_index order i)
    × (weight k + h (slice_index order i) ≡ rise + h (slice_index order j)))

-- a mark stays, or is of this level before and after
abbrev pub Stays : ℕ → ℕ → Type 0
Stays mark mark' = (mark' ≡ mark) ⊎ ((8 < mark) × (8 < mark'))

-- What a part of the search adds. Marks of this level may be written anew.
pub record Grown (g : Grid) (owners : List ℕ) (net : ℕ) (h : ℕ → ℕ) (rise from to : ℕ)
    (order marks : List ℕ) (n : ℕ) (order' marks' : List ℕ) (n' : ℕ) : Type 0 where
  pub more : n ≤ n'
  pub size : length marks' ≡ length marks
  pub prefix : (i : ℕ) → i < n → slice_index order' i ≡ slice_index order i
  pub stays : (v : ℕ) → slice_index marks v ≢ 0 → Stays (slice_index marks v) (slice_index marks' v)
  pub fresh : (i : ℕ) → n ≤ i → i < n' → (slice_index marks (slice_index order' i) ≡ 0) × (8 < slice_index marks' (slice_index order' i))
  pub reached : (i : ℕ) → i < n' → 8 < slice_index marks' (slice_index order' i)
      → Reached g owners net h rise order' marks' from to i
      ⊎ ((i < n) × (slice_index marks' (slice_index order' i) ≡ slice_index marks (slice_index order' i)))

-- Each free neighbour of entry `j` on way `k`, at this rise, has a mark.
abbrev pub IsSpread : Grid → List ℕ → ℕ → (ℕ → ℕ) → ℕ → List ℕ → List ℕ → ℕ → ℕ → Type 0
IsSpread g owners net h rise order marks j k =
    (v : ℕ) → next g (slice_index order j) k ≡ Some v → weight k + h v ≡ rise + h (slice_index order j) → IsFree owners net v
    → slice_index marks v ≢ 0

-- there is an owner and a link for each node
pub record IsRoom (r : Room) : Type 0 where
  pub few : nodes r.grid < 4294967295
  pub owners : length r.owners.items ≡ nodes r.grid
  pub links : length r.links.items ≡ nodes r.grid

-- there is an owner and a flag for each of n nodes
pub record AreWords (w : Words) (n : ℕ) : Type 0 where
  pub owners : length w.owners.now.items ≡ n
  pub flags : length w.reserved.now.items ≡ n

-- there are few nodes, and words for each
pub record IsField (f : Field) : Type 0 where
  pub few : nodes f.grid < 4294967295
  pub words : AreWords f.words (nodes f.grid)

-- the node is in the net's own tree
abbrev pub IsOwn : List ℕ → List ℕ → ℕ → ℕ → Type 0
IsOwn owners links net v = (slice_index links v ≢ 0) × (slice_index owners v ≡ net)

-- there is a place for each of n nodes, and none has a mark
pub record IsIdle (order marks : List ℕ) (n : ℕ) : Type 0 where
  pub places : length order ≡ n
  pub size : length marks ≡ n
  pub clear : (v : ℕ) → slice_index marks v ≡ 0
