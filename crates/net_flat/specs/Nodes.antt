-- The instances of a netlist, by a list of what its models are.
use Rattle.std.specs.Prelude.{◌≡◌, ℕ, ◌<◌, Bool, true, false, List, [], ◌∷◌, ◌++◌, length, slice_index_or}
use Rattle.std.specs.List.{flat_map}
use Rattle.vlsi_base.specs.declared.name.Name.{Name}
use Rattle.vlsi_base.specs.Names.{scalar}
use Rattle.net_core.specs.declared.frame.Node.{Node}
use Rattle.net_flat.specs.declared.parts.Part.{Part}
use Rattle.net_flat.specs.declared.parts.Part.TheVariants as part

abbrev pub is_other : Part → Bool
is_other part.Gate = false
is_other part.Register = false
is_other part.Other = true

abbrev pub is_register : Part → Bool
is_register part.Gate = false
is_register part.Register = true
is_register part.Other = false

abbrev pub IsOtherAt : List Node → List Part → ℕ → Bool → Type 0
IsOtherAt nodes parts k answer = (i : Node) → is_other (slice_index_or parts (slice_index_or nodes k i).model part.Gate) ≡ answer

pub record IsFirstOther (nodes : List Node) (parts : List Part) (k : ℕ) : Type 0 where
  pub inside : k < length nodes
  pub is : IsOtherAt nodes parts k true
  pub first : (j : ℕ) → j < k → IsOtherAt nodes parts j false

abbrev pub HasNoOther : List Node → List Part → Type 0
HasNoOther nodes parts = (j : ℕ) → j < length nodes → IsOtherAt nodes parts j false

abbrev pub name_if : Bool → Node → List Name
name_if true i = scalar i.name ∷ []
name_if false i = []

-- the names of the registers
abbrev pub names_by : List Part → List Node → List Name
names_by parts nodes = flat_map (λ i. name_if (is_register (slice_index_or parts i.model part.Gate)) i) nodes
