-- How terminals are named.
use Rattle.std.specs.Prelude.{◌≡◌, ℕ, List, [], ◌∷◌, ◌++◌, Option, None, Some}
use Rattle.vlsi_base.specs.declared.name.Name.{Name}
use Rattle.vlsi_base.specs.declared.name.Terminal.{Terminal}
use Rattle.vlsi_base.specs.Names.{scalar}
use Rattle.net_core.specs.Places.{Stands}

-- a port by its name, a pin by its instance and its own name
abbrev pub owner_names : Option (List ℕ) → List Name
owner_names None = []
owner_names (Some owner) = scalar owner ∷ []

abbrev pub terminal_names : Terminal → List Name
terminal_names t = owner_names t.instance ++ t.pin ∷ []

-- the names of the terminal at a place
pub record HasNamesAt (terminals : List Terminal) (place : ℕ) (names : List Name) : Type 0 where
  pub terminal : Terminal
  pub stands : Stands terminals place terminal
  pub named : names ≡ terminal_names terminal
