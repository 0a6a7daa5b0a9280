-- When a cell computes what two gates do, or a cut.
use Rattle.std.specs.Prelude.{◌≡◌, ◌≢◌, ◌⊎◌, ◌↔◌, ℕ, ◌<◌, ◌≤◌, Bool, List, map, length, nat_eq, if◌then◌else◌}
use Rattle.truth_tab.specs.Table.{value_of}
use Rattle.cell_match.specs.declared.gate.CellWord.{CellWord}
use Rattle.cell_match.specs.declared.gate.Gate.{Gate}
use Rattle.cell_match.specs.declared.cut.Cut.{Cut}
use Rattle.cell_match.specs.Places.{times}
use Rattle.cell_match.specs.Cells.{inputs_of, cell_value, gate_value}

-- another bit for node a
abbrev pub put : ℕ → Bool → (ℕ → Bool) → ℕ → Bool
put a v f x = if nat_eq x a then v else f x

-- the function of g with that of h put in for node a
abbrev pub composed : List CellWord → Gate → Gate → ℕ → (ℕ → Bool) → Bool
composed cells h g a f = gate_value cells g (put a (gate_value cells h f) f)

-- Cell k computes the function of g with that of h put in for node a, where its inputs are put one to one on the different nodes
-- that h and g read besides a.
pub record Computes (cells : List CellWord) (k : ℕ) (order : List ℕ) (h g : Gate) (a : ℕ) : Type 0 where
  pub there : k < length cells
  pub many : length order ≡ inputs_of cells k
  pub once : (x : ℕ) → times x order ≤ 1
  pub members : (x : ℕ) → (0 < times x order) ↔ ((0 < times x h.leaves.items) ⊎ ((0 < times x g.leaves.items) × (x ≢ a)))
  pub value : (f : ℕ → Bool) → cell_value cells k (map f order) ≡ composed cells h g a f

module _ {K : ℕ} where
  -- what the cut's word gives where nodes have these bits
  abbrev pub cut_value : Cut K → (ℕ → Bool) → Bool
  cut_value c f = value_of c.word.word (map f c.leaves.items)

-- cell k computes the cut's function, with its inputs put one to one on the leaves
pub record ComputesCut {K : ℕ} (cells : List CellWord) (k : ℕ) (order : List ℕ) (c : Cut K) : Type 0 where
  pub there : k < length cells
  pub many : length order ≡ inputs_of cells k
  pub once : (x : ℕ) → times x order ≤ 1
  pub members : (x : ℕ) → (0 < times x order) ↔ (0 < times x c.leaves.items)
  pub value : (f : ℕ → Bool) → cell_value cells k (map f order) ≡ cut_value c f
