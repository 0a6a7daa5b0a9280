-- Names by their places in a list, and bits by place.
use Rattle.std.specs.Prelude.{◌≡◌, ℕ, ◌+◌, Bool, false, List, [], ◌∷◌, Option, None, Some, if◌then◌else◌, slice_index_or}
use Rattle.std.specs.FinMap.{get}
use Rattle.vlsi_base.specs.declared.name.Name.{Name}
use Rattle.vlsi_base.specs.NamePlaces.{NamePlaces}
use Rattle.machine_core.specs.Named.{is_same_name}

abbrev pub one_on : Option ℕ → Option ℕ
one_on None = None
one_on (Some k) = Some (k + 1)

-- where a name stands first, if it does
abbrev pub place_of : List Name → Name → Option ℕ
place_of [] name = None
place_of (n ∷ names) name = if is_same_name n name then Some 0 else one_on (place_of names name)

-- an index has the place of each name of the list, and of no other
abbrev pub IsIndexOf : NamePlaces → List Name → Type 0
IsIndexOf places names = (name : Name) → get places name ≡ place_of names name

-- the bit at a place; where there is none it reads as 0
abbrev pub bit_at : List Bool → Option ℕ → Bool
bit_at w None = false
bit_at w (Some k) = slice_index_or w k false
