-- The words of gates.
use Rattle.std.specs.Prelude.{◌≡◌, ℕ, List, Bool, length, filter}
use Rattle.bool_expr.specs.Expression.{Expression, val}
use Rattle.machine_core.specs.Machine.{is_input}
use Rattle.truth_tab.specs.Table.{value_of}
use Rattle.cell_model.specs.declared.cell.Pin.{Pin}
use Rattle.cell_model.specs.Function.{gate}
use Rattle.cell_model.specs.Cell.{Cell, cell_inputs}

abbrev pub input_count : List Pin → ℕ
input_count pins = length (filter (λ p. is_input p.port.dir) pins)

-- the word's function is that of the gate, where variable k is input pin k in the order of names
pub record IsWordOf (c : Cell) (word : ℕ) : Type 0 where
  pub expr : Expression
  pub is_gate : c.function ≡ gate expr
  pub value : (w : List Bool) → length w ≡ length (cell_inputs c) → value_of word w ≡ val expr w
