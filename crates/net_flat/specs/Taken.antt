-- Names whose text a port has.
use Rattle.std.specs.Prelude.{◌≡◌, ℕ, ◌<◌, Bool, true, false, List, map, length, slice_index_or, is_some, Option, None, Some}
use Rattle.std.specs.List.{list_any}
use Rattle.std.specs.FinMap.{get}
use Rattle.vlsi_base.specs.declared.name.Name.{Name}
use Rattle.vlsi_base.specs.declared.name.Port.{Port}
use Rattle.vlsi_base.specs.NamePlaces.{NamePlaces}
use Rattle.vlsi_base.specs.Names.{scalar}
use Rattle.machine_core.specs.Named.{is_same_name}

-- the ports' texts, as scalars
abbrev pub port_texts : List Port → List Name
port_texts ports = map (λ p. scalar p.name.text) ports

abbrev pub is_taken : List Port → Name → Bool
is_taken ports name = list_any (λ t. is_same_name t (scalar name.text)) (port_texts ports)

-- the first name that passes a test; none where none does
abbrev pub IsFirst : (Name → Bool) → List Name → Option ℕ → Type 0
IsFirst test names None = (j : ℕ) (d : Name) → j < length names → test (slice_index_or names j d) ≡ false
IsFirst test names (Some k) =
    (k < length names) × ((d : Name) → test (slice_index_or names k d) ≡ true) × ((j : ℕ) (d : Name) → j < k → test (slice_index_or names j d) ≡ false)

-- the index has the text of the name
abbrev pub is_indexed : NamePlaces → Name → Bool
is_indexed index name = is_some (get index (scalar name.text))
