-- What cells and gates compute.
use Rattle.std.specs.Prelude.{◌≡◌, ℕ, ◌<◌, ◌≤◌, Bool, List, map, length}
use Rattle.std.specs.List.{slice_index_or}
use Rattle.truth_tab.specs.Table.{bit, value_of}
use Rattle.cell_match.specs.declared.gate.CellWord.{CellWord}
use Rattle.cell_match.specs.declared.gate.Gate.{Gate}
use Rattle.cell_match.specs.Places.{times, IsOrder}

-- how many inputs a cell has, and its value where they have these bits
abbrev pub blank : CellWord
blank = record { inputs = 0; word = record { word = 0 } }

abbrev pub inputs_of : List CellWord → ℕ → ℕ
inputs_of cells k = (slice_index_or cells k blank).inputs

abbrev pub cell_value : List CellWord → ℕ → List Bool → Bool
cell_value cells k w = value_of (slice_index_or cells k blank).word.word w

-- a gate's value where nodes have these bits
abbrev pub gate_value : List CellWord → Gate → (ℕ → Bool) → Bool
gate_value cells g f = cell_value cells g.cell (map f g.leaves.items)

-- a gate that shows node j: its inputs are at different earlier nodes
pub record IsGate (cells : List CellWord) (j : ℕ) (g : Gate) : Type 0 where
  pub there : g.cell < length cells
  pub many : length g.leaves.items ≡ inputs_of cells g.cell
  pub once : (x : ℕ) → times x g.leaves.items ≤ 1
  pub earlier : (x : ℕ) → 0 < times x g.leaves.items → x < j

-- the word has the function of cell k where the order says which variable stands at each input
abbrev pub IsOf : List CellWord → ℕ → List ℕ → ℕ → Type 0
IsOf cells k order word = (v : List Bool) → length v ≡ 6 → value_of word v ≡ cell_value cells k (map (λ i. bit v i) order)

-- a cell of n inputs computes the word
pub record IsMatch (cells : List CellWord) (n word k : ℕ) (order : List ℕ) : Type 0 where
  pub there : k < length cells
  pub inputs : inputs_of cells k ≡ n
  pub ordered : IsOrder n order
  pub same : IsOf cells k order word
