-- Who owns the nodes of a grid.
use Rattle.std.specs.Prelude.{◌≡◌, ℕ, ◌⊎◌, List, Option, Some, None, slice_index, nat_eq, if◌then◌else◌}
use Rattle.vlsi_base.specs.Member.{In}
use Rattle.grid_core.specs.declared.grid.Grid.{Grid}
use Rattle.grid_core.specs.declared.grid.Node.{Node}
use Rattle.grid_core.specs.Grid.{IsInGrid}
use Rattle.grid_core.specs.Numbers.{number}

-- a word for each node by number: its owner, or 2^32 - 1 where it has none
pub record Owners : Type 0 where
  pub grid : Grid
  pub words : List ℕ

abbrev pub owner_in : ℕ → Option ℕ
owner_in word = if nat_eq word 4294967295 then None else Some word

abbrev pub owner_of : Owners → Node → Option ℕ
owner_of o p = owner_in (slice_index o.words (number o.grid p))

-- the node is in the grid, and has no owner but the net
pub record IsFree (o : Owners) (net : ℕ) (p : Node) : Type 0 where
  pub within : IsInGrid o.grid p
  pub apart : (owner_of o p ≡ None) ⊎ (owner_of o p ≡ Some net)

-- no node has an owner yet
pub record IsBegun (g : Grid) (o : Owners) : Type 0 where
  pub grid : o.grid ≡ g
  pub free : (p : Node) → IsInGrid g p → owner_of o p ≡ None

-- these nodes became the net's, and the others stayed as they were
pub record IsTaken (old : Owners) (net : ℕ) (taken : List Node) (new : Owners) : Type 0 where
  pub grid : new.grid ≡ old.grid
  pub mine : (p : Node) → In p taken → owner_of new p ≡ Some net
  pub others : (p : Node) → IsInGrid old.grid p → (In p taken → ⊥) → owner_of new p ≡ owner_of old p
