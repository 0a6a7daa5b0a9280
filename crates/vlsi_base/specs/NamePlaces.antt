-- Places in a list, by name.
use Rattle.std.specs.Prelude.{ℕ, ◌+◌, List, [], ◌∷◌, Option, None, Some, if◌then◌else◌, option_map, refl}
use Rattle.std.specs.Option.{option_or}
use Rattle.std.specs.Coded.{Coded, code_by, coded×, coded_list, coded_option, coded_ℕ}
use Rattle.std.specs.FinMap.{FinMap, code}
use Rattle.std.specs.Ordering.{eq_by_cmp}
use Rattle.vlsi_base.specs.declared.name.Name.{Name}
use Rattle.vlsi_base.specs.Name.{name_cmp}

-- at most one place for each name
abbrev pub NamePlaces : Type 0
NamePlaces = FinMap name_cmp ℕ

-- a name is stored as its text and its bit
abbrev pub name_code : Coded Name
name_code =
    code_by (List ℕ × Option ℕ) (coded× (coded_list coded_ℕ) (coded_option coded_ℕ)) (λ n. (n.text, n.bit)) (λ p. record { text = p.0; bit = p.1 }) (λ _. refl)

abbrev pub places_code : Coded NamePlaces
places_code = code name_code coded_ℕ

-- the name of this text and this bit
abbrev pub name_of : List ℕ → Option ℕ → Name
name_of text bit = record { text = text; bit = bit }

-- the place at which a name stands last, if it stands in the list
abbrev pub last_place : List Name → Name → Option ℕ
last_place [] name = None
last_place (n ∷ names) name =
    option_or (option_map (λ k. k + 1) (last_place names name)) (if eq_by_cmp name_cmp n name then Some 0 else None)
