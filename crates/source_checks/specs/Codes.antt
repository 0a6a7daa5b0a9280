-- Bits of one name, by numbers: 0 is the name without a bit, and k + 1 its bit k.
use Rattle.std.specs.Prelude.{◌≡◌, ℕ, zero, suc, ◌+◌, ◌≤◌, ◌^◌, Bool, true, false, not, List, [], ◌∷◌, map, min, Option, None, Some}
use Rattle.std.specs.BTreeSet.{BTreeSet}
use Rattle.std.specs.List.{All}
use Rattle.vlsi_base.specs.declared.name.Name.{Name}
use Rattle.vlsi_base.specs.declared.range.Range.{Range}
use Rattle.source_checks.specs.declared.statement.Selection.{Selection}
use Rattle.source_checks.specs.declared.statement.Selection.TheVariants as selection
use Rattle.source_checks.specs.declared.symbol_table.Symbol.{Symbol}
use Rattle.vlsi_base.specs.Range.{range_bits}
use Rattle.source_checks.specs.Drivers.{is_among}
use Rattle.source_checks.specs.Known.{position_of}
use Rattle.source_checks.specs.Marks.{has}

abbrev pub bit_of : ℕ → Option ℕ
bit_of zero = None
bit_of (suc k) = Some k

abbrev pub name_at : List ℕ → ℕ → Name
name_at text code = record { text = text; bit = bit_of code }

abbrev pub codes_in : Option Range → List ℕ
codes_in None = 0 ∷ []
codes_in (Some r) = map (λ k. k + 1) (range_bits r)

-- the bits have numbers of 32 bits
abbrev pub AreSmall : List ℕ → Type 0
AreSmall codes = All (λ code. code ≤ 2 ^ 32) codes

abbrev pub selected_codes : Option Range → Selection → List ℕ
selected_codes range selection.Whole = codes_in range
selected_codes range (selection.Bit k) = (k + 1) ∷ []
selected_codes range (selection.Bits r) = codes_in (Some r)

abbrev pub same_bool : Bool → Bool → Bool
same_bool true b = b
same_bool false b = not b

-- the lesser of a number and a number that may be missing
abbrev pub least_with : ℕ → Option ℕ → ℕ
least_with n None = n
least_with n (Some m) = min n m

abbrev pub least_code : List ℕ → Option ℕ
least_code [] = None
least_code (c ∷ codes) = Some (least_with c (least_code codes))

-- the set has the bits that are among the names
pub record Tied (known : List Symbol) (marks : BTreeSet (ℕ × ℕ)) (driven : List Name) : Type 0 where
  pub each : (text : List ℕ) (place code : ℕ) → position_of known text ≡ Some place → has marks (place, code) ≡ is_among driven (name_at text code)
