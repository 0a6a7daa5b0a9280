-- How the nodes of a path, found from its target, become part of a net's tree.
use Rattle.std.specs.Prelude.{ℕ, ◌≡◌, ◌≢◌, ◌+◌, ◌<◌, ◌≤◌, List, [], ◌∷◌, length, Some, slice_index}
use Rattle.vlsi_base.specs.Member.{In}
use Rattle.grid_core.specs.declared.grid.Grid.{Grid}
use Rattle.grid_core.specs.Numbers.{nodes}
use Rattle.nero_maze.specs.declared.frontier.Room.{Room}
use Rattle.nero_maze.specs.Ways.{weight, next}
use Rattle.nero_maze.specs.Search.{IsFree, IsOwn}

-- The nodes `q ∷ rest` lead from `q` back to the net's tree, at the cost `c`, where each but the last is free.
abbrev pub LeadsBack : Grid → List ℕ → List ℕ → ℕ → ℕ → List ℕ → ℕ → Type 0
LeadsBack g owners links net q [] c = IsOwn owners links net q × (c ≡ 0)
LeadsBack g owners links net q (p ∷ rest) c =
    IsFree owners net q × ((k : ℕ) × (k < 4) × (next g q k ≡ Some p)
    × ((b : ℕ) × LeadsBack g owners links net p rest b × (c ≡ b + weight k)))

-- The links tell the nodes after `q`: one more than the way to the next one, and four more where that is the last.
abbrev pub Told : Grid → List ℕ → ℕ → List ℕ → Type 0
Told g links q [] = ⊥
Told g links q (p ∷ []) = (k : ℕ) × (k < 4) × (slice_index links q ≡ k + 5) × (next g q k ≡ Some p)
Told g links q (p ∷ r ∷ rest) =
    (k : ℕ) × (k < 4) × (slice_index links q ≡ k + 1) × (next g q k ≡ Some p) × Told g links p (r ∷ rest)

-- What the owners and the links become: those of the path are the net's, and the others stay.
pub record Changed (net : ℕ) (path owners links owners' links' : List ℕ) : Type 0 where
  pub mine : (v : ℕ) → In v path → (slice_index owners' v ≡ net) × (slice_index links' v ≢ 0)
  pub kept : (v : ℕ) → slice_index links v ≢ 0 → (slice_index owners' v ≡ slice_index owners v) × (slice_index links' v ≡ slice_index links v)
  pub others : (v : ℕ) → (In v path → ⊥) → (slice_index owners' v ≡ slice_index owners v) × (slice_index links' v ≡ slice_index links v)

-- The path of a target as it was claimed.
pub record Claimed (net target cost : ℕ) (old new : Room) (rest : List ℕ) : Type 0 where
  pub grid : new.grid ≡ old.grid
  pub leads : LeadsBack old.grid old.owners.items old.links.items net target rest cost
  pub told : Told old.grid new.links.items target rest
  pub short : length rest ≤ nodes old.grid
  pub changed : Changed net (target ∷ rest) old.owners.items old.links.items new.owners.items new.links.items
