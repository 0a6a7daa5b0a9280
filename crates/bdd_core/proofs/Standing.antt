-- What a question leaves at the places of a table.
use Rattle.std.proofs.Common.{◌≡◌, ℕ, ◌<◌, List, ◌∷◌, length}
use Rattle.bdd_core.specs.Truths.{Truths}
use Rattle.bdd_core.specs.Nodes.{Lists}
use Rattle.bdd_core.specs.Counting.{function, Holds}

-- places that were there stay, and keep their functions
abbrev pub KeepsPlaces : Lists → Lists → Type 0
KeepsPlaces old new = (i : ℕ) → i < length old.lists → (i < length new.lists) × (function new i ≡ function old i)

-- the place of a function that was asked for
pub record Stands (old new : Lists) (asked : Truths) (at : ℕ) : Type 0 where
  pub within : at < length new.lists
  pub is : function new at ≡ asked
  pub holds : (functions : List Truths) → Holds functions old → Holds (asked ∷ functions) new
