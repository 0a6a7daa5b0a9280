-- Tables from words to cells.
use Rattle.std.specs.Prelude.{◌≡◌, ◌⊎◌, ℕ, ◌<◌, ◌≤◌, ◌^◌, List, take, length, Option, Some, None, nat_eq, slice_get}
use Rattle.std.specs.HashMap.{HashMap, get}
use Rattle.cell_match.specs.declared.gate.CellWord.{CellWord}
use Rattle.cell_match.specs.declared.table.Match.{Match}
use Rattle.cell_match.specs.Places.{IsOrder, times}
use Rattle.cell_match.specs.Cells.{IsOf, IsMatch, inputs_of}

-- what is told of a word
abbrev pub Known : (ℕ → Option Match) → ℕ → Type 0
Known at word = (x : Match) × (at word ≡ Some x)

-- each cell that is told of a word computes it, with n inputs
abbrev pub AreMatches : List CellWord → ℕ → (ℕ → Option Match) → Type 0
AreMatches cells n at = (word : ℕ) (x : Match) → at word ≡ Some x → IsMatch cells n word x.cell x.order.items

-- and something is told of each word that a cell of n inputs computes: the first of these cells
pub record IsTableOf (cells : List CellWord) (n : ℕ) (at : ℕ → Option Match) : Type 0 where
  pub found : AreMatches cells n at
  pub every : (word k : ℕ) (order : List ℕ) → word < 2 ^ 64 → IsMatch cells n word k order → Known at word
  pub first : (word k : ℕ) (order : List ℕ) (x : Match) → word < 2 ^ 64 → at word ≡ Some x → IsMatch cells n word k order → x.cell ≤ k

-- what was told of words is told, and of further ones cell k
pub record IsMoreOf (k : ℕ) (old new : ℕ → Option Match) : Type 0 where
  pub kept : (word : ℕ) (x : Match) → old word ≡ Some x → new word ≡ Some x
  pub added : (word : ℕ) (x : Match) → new word ≡ Some x → (old word ≡ Some x) ⊎ ((old word ≡ None) × (x.cell ≡ k))

-- what the maps tell of words over n variables
abbrev pub IsTable : {S : Type 0} → List CellWord → List (HashMap ℕ Match S) → Type 0
IsTable {S} cells maps =
    (length maps ≡ 7) × ((n : ℕ) (m : HashMap ℕ Match S) → slice_get maps n ≡ Some m → IsTableOf cells n (λ w. get nat_eq m w))

-- the first places of an order: numbers below n, each once
pub record IsBegun (n : ℕ) (order : List ℕ) : Type 0 where
  pub many : length order ≤ n
  pub within : (i : ℕ) → 0 < times i order → i < n
  pub once : (i : ℕ) → times i order ≤ 1

-- something is told of each word of cell k with an order that begins so
abbrev pub KnowsEach : List CellWord → ℕ → List ℕ → (ℕ → Option Match) → Type 0
KnowsEach cells k begun at =
    (word : ℕ) (order : List ℕ) → word < 2 ^ 64 → IsOrder (inputs_of cells k) order → take (length begun) order ≡ begun
    → IsOf cells k order word → Known at word

-- what is answered is what the map at this place tells of the word
abbrev pub IsFound : {S : Type 0} → List (HashMap ℕ Match S) → ℕ → ℕ → Option Match → Type 0
IsFound {S} maps n word answer = (m : HashMap ℕ Match S) × (slice_get maps n ≡ Some m) × (answer ≡ get nat_eq m word)
