-- The gates of a library that a netlist may use.
use Rattle.std.specs.Prelude.{◌≡◌, ℕ, ◌≤◌, Bool, List, length, Some, slice_get}
use Rattle.bool_expr.specs.Expression.{Expression, val}
use Rattle.truth_tab.specs.Table.{value_of}
use Rattle.cell_model.specs.Cell.{gate, Cell, cell_inputs}
use Rattle.cell_model.specs.Library.{Library, IsUsable}
use Rattle.cell_checks.specs.Checks.{HasColumns}
use Rattle.cell_match.specs.declared.gate.CellWord.{CellWord}
use Rattle.cell_match.specs.Places.{times}
use Rattle.gate_cells.specs.declared.listed.GateCells.{GateCells}

-- A netlist may use the cell as a gate. The word is its function, where variable k is input pin k in the order of names, and the
-- area is its width in columns.
pub record IsGateCell (c : Cell) (word : CellWord) (area : ℕ) : Type 0 where
  pub usable : IsUsable c
  pub expr : Expression
  pub is_gate : c.function ≡ gate expr
  pub inputs : word.inputs ≡ length (cell_inputs c)
  pub value : (w : List Bool) → length w ≡ length (cell_inputs c) → value_of word.word.word w ≡ val expr w
  pub columns : HasColumns c area

-- a netlist may not use the cell as a gate
abbrev pub IsNoGate : Cell → Type 0
IsNoGate c = (e : Expression) → IsUsable c → c.function ≡ gate e → ⊥

-- at number k of the lists stand a gate's word, its area and its place in the library
abbrev pub IsListedAt : Library → GateCells → ℕ → Type 0
IsListedAt l g k =
    (word : CellWord) (area place : ℕ) → slice_get g.words.items k ≡ Some word → slice_get g.areas.items k ≡ Some area
    → slice_get g.places.items k ≡ Some place → (c : Cell) × (slice_get l.cells place ≡ Some c) × IsGateCell c word area

-- The gates of the library that a netlist may use are listed, each once, by rising area.
pub record AreGateCells (l : Library) (g : GateCells) : Type 0 where
  pub words : length g.words.items ≡ length g.places.items
  pub areas : length g.areas.items ≡ length g.places.items
  pub each : (k : ℕ) → IsListedAt l g k
  pub every : (place : ℕ) (c : Cell) (e : Expression) → slice_get l.cells place ≡ Some c → IsUsable c → c.function ≡ gate e
      → (k : ℕ) × (slice_get g.places.items k ≡ Some place)
  pub once : (place : ℕ) → times place g.places.items ≤ 1
  pub rising : (j k a b : ℕ) → j ≤ k → slice_get g.areas.items j ≡ Some a → slice_get g.areas.items k ≡ Some b → a ≤ b
