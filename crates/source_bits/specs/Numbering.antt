-- Numbers of declared bits, name by name.
use Rattle.std.specs.Prelude.{◌≡◌, ℕ, ◌+◌, ◌≤◌, ◌<◌, nat_lt, slice_index_or, List, [], ◌∷◌, length, Option, None, Some, if◌then◌else◌}
use Rattle.vlsi_base.specs.declared.name.Name.{Name}
use Rattle.source_checks.specs.declared.symbol_table.Symbol.{Symbol}
use Rattle.source_checks.specs.Symbols.{symbol_names, all_names, names_in}
use Rattle.source_checks.specs.Formula.{place}
use Rattle.source_bits.specs.declared.ranges.Declared.{Declared}

abbrev pub named_bit : List ℕ → Option ℕ → Name
named_bit text bit = record { text = text; bit = bit }

-- the numbers at which the bits of each name begin, where those of the first begin at n
abbrev pub starts_from : ℕ → List Symbol → List ℕ
starts_from n [] = []
starts_from n (s ∷ rest) = n ∷ starts_from (n + length (symbol_names s)) rest

-- these are the numbers at which the bits of each name begin, and how many bits all have
pub record IsNumbered (starts : List ℕ) (total : ℕ) (known : List Symbol) : Type 0 where
  pub starts_are : starts ≡ starts_from 0 known
  pub total_is : total ≡ length (all_names known)

-- where a name stands among names: as many as there are where it isn't one of them
abbrev pub IsOffset : List Name → Name → Option ℕ → Type 0
IsOffset names n None = place names n ≡ length names
IsOffset names n (Some k) = (place names n ≡ k) × (k < length names)

-- the number of a bit whose name is declared so; the total where it isn't declared
abbrev pub number_in : ℕ → Option Declared → Name → ℕ
number_in total None n = total
number_in total (Some d) n =
    let names = names_in n.text d.range in let k = place names n in
    if nat_lt k (length names) then d.first + k else total

-- all bits of the name have numbers below the total
abbrev pub LiesWithin : ℕ → Option Declared → Type 0
LiesWithin total None = Unit {0}
LiesWithin total (Some d) = (text : List ℕ) → d.first + length (names_in text d.range) ≤ total

-- a place whose number is not over this one, and behind which stands a greater one or none
pub record Begins (starts : List ℕ) (number place : ℕ) : Type 0 where
  pub inside : place < length starts
  pub below : slice_index_or starts place 0 ≤ number
  pub above : place + 1 < length starts → number < slice_index_or starts (place + 1) 0
