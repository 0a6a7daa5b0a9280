-- What a group of sinks is put behind.
use Rattle.std.specs.Prelude.{◌≡◌, ◌⊎◌, ℕ, ◌<◌, Bool, List, [], ◌∷◌, length, Some, slice_get}
use Rattle.bool_expr.specs.Expression.{val}
use Rattle.vlsi_base.specs.Member.{In}
use Rattle.vlsi_base.specs.declared.kind.Kind.TheVariants as kind
use Rattle.cell_model.specs.Function.{Function, gate, flip_flop, other, opaque}
use Rattle.cell_model.specs.Cell.{Cell, cell_inputs}
use Rattle.cell_model.specs.Library.{IsUsable}
use Rattle.cell_model.specs.Covering.{HasKind}

-- a gate whose value is that of its one input
abbrev pub GivesItsInput : Function → ℕ → Type 0
GivesItsInput (gate e) inputs = (inputs ≡ 1) × ((a : Bool) → val e (a ∷ []) ≡ a)
GivesItsInput (flip_flop data_pin clock_pin) inputs = ⊥
GivesItsInput (other machine) inputs = ⊥
GivesItsInput opaque inputs = ⊥

-- a usable cell whose function is its input
abbrev pub IsBufferCell : Cell → Type 0
IsBufferCell c = IsUsable c × GivesItsInput c.function (length (cell_inputs c))

-- a usable cell that inverts its input
abbrev pub IsInverterCell : Cell → Type 0
IsInverterCell c = IsUsable c × HasKind c kind.Inv

-- the first of a list that has P
pub record IsFirst {A : Type 0} (P : A → Type 0) (xs : List A) (x : A) : Type 0 where
  pub place : ℕ
  pub stands : slice_get xs place ≡ Some x
  pub holds : P x
  pub first : (j : ℕ) (y : A) → j < place → slice_get xs j ≡ Some y → P y → ⊥

-- a cell, and how many gates of it stand in a row
pub record Repeater : Type 0 where
  pub cell : Cell
  pub gates : ℕ

-- One gate of the first buffer; where there is no buffer, two of the first inverter.
pub data IsRepeater (cells : List Cell) : Repeater → Type 0 where
  buffer : {c : Cell} → IsFirst IsBufferCell cells c → IsRepeater cells (record { cell = c; gates = 1 })
  inverters : {c : Cell} → ((b : Cell) → In b cells → IsBufferCell b → ⊥) → IsFirst IsInverterCell cells c
      → IsRepeater cells (record { cell = c; gates = 2 })

-- there is neither a buffer nor an inverter
abbrev pub NoneRepeats : List Cell → Type 0
NoneRepeats cells = (c : Cell) → In c cells → IsBufferCell c ⊎ IsInverterCell c → ⊥
