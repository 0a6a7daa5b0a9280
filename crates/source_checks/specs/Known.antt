-- Places of declared names.
use Rattle.std.specs.Prelude.{◌≡◌, ℕ, suc, List, [], ◌∷◌, Option, None, Some, option_map, bytes_eq, if◌then◌else◌}
use Rattle.std.specs.Global.{Vec}
use Rattle.std.specs.BTreeMap.{BTreeMap}
use Rattle.source_checks.specs.declared.symbol_table.Symbol.{Symbol}
use Rattle.source_checks.specs.Lookup.{place_at}

-- the place of the first symbol of this text
abbrev pub position_of : List Symbol → List ℕ → Option ℕ
position_of [] text = None
position_of (s ∷ rest) text = if bytes_eq s.text text then Some 0 else option_map suc (position_of rest text)

-- the map has the place of each text
pub record KnowsPlaces (places : BTreeMap (Vec ℕ) ℕ) (known : List Symbol) : Type 0 where
  pub each : (text : List ℕ) → place_at places text ≡ position_of known text
