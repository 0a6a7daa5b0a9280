-- What a machine computes as a cell: a gate, a plain flip-flop, or something else.
use Rattle.std.specs.Prelude.{◌≡◌, ℕ, ◌≤◌, Bool, true, ◌&&◌, List, [], ◌∷◌, length, Option, None, Some, is_none}
use Rattle.vlsi_base.specs.declared.name.Name.{Name}
use Rattle.vlsi_base.specs.declared.name.Port.{Port}
use Rattle.bool_expr.specs.Expression.{Expression, val, IsOver}
use Rattle.bool_expr.specs.View.{view}
use Rattle.machine_core.specs.Machine.{Machine, Register, inputs, outputs}
use Rattle.machine_core.specs.Named.{value_at}
use Rattle.machine_core.specs.Cycles.{Settles}
use Rattle.cell_model.specs.declared.function.Function.{Function}
use Rattle.cell_model.specs.declared.function.Function.TheVariants as function

-- the most inputs of a gate
abbrev pub most_inputs : ℕ
most_inputs = 6

-- no pin is a bit of a vector
abbrev pub are_scalar : List Port → Bool
are_scalar [] = true
are_scalar (p ∷ rest) = is_none p.name.bit && are_scalar rest

abbrev pub AreScalar : List Port → Type 0
AreScalar ports = are_scalar ports ≡ true

-- The machine has scalar pins, one output, at most 6 inputs, and neither a clock nor a register; and in every valuation that
-- settles its output has the value of the expression, in which variable k is input number k in the order of names.
pub record IsGate (m : Machine) (e : Expression) : Type 0 where
  pub scalars : AreScalar m.ports
  pub output : Name
  pub one : outputs m ≡ output ∷ []
  pub few : length (inputs m) ≤ most_inputs
  pub unclocked : m.clock ≡ None
  pub stateless : m.registers ≡ []
  pub over : IsOver e (length (inputs m))
  pub value : (i w : List Bool) → Settles m [] i w → value_at m.vars w output ≡ val e i

-- in every valuation that settles, from any contents and under any input, the register loads this input, whatever the input
-- is, and the output has the register's bit
abbrev pub StoresInput : Machine → Name → Register → Type 0
StoresInput m output r =
    (s i : Bool) (w : List Bool) → Settles m (s ∷ []) (i ∷ []) w
    → (val r.next w ≡ i) × (val r.enable w ≡ true) × (value_at m.vars w output ≡ s)

-- The machine has scalar pins: a clock, one further input, the data, and one output; and one register, which always loads the
-- data and which the output shows.
pub record IsFlipFlop (m : Machine) (data_pin clock_pin : Name) : Type 0 where
  pub scalars : AreScalar m.ports
  pub output : Name
  pub one : outputs m ≡ output ∷ []
  pub data_input : inputs m ≡ data_pin ∷ []
  pub clock_input : m.clock ≡ Some clock_pin
  pub register : Register
  pub stored : m.registers ≡ register ∷ []
  pub plain : StoresInput m output register

abbrev pub IsNoGate : Machine → Type 0
IsNoGate m = (e : Expression) → IsGate m e → ⊥

abbrev pub IsNoFlipFlop : Machine → Type 0
IsNoFlipFlop m = (data_pin clock_pin : Name) → IsFlipFlop m data_pin clock_pin → ⊥

-- what a machine is as a cell
abbrev pub IsFunction : Machine → Function → Type 0
IsFunction m (function.Gate e) = IsGate m (view e)
IsFunction m (function.FlipFlop data_pin clock_pin) = IsFlipFlop m data_pin clock_pin
IsFunction m (function.Other whole) = (whole ≡ m) × IsNoGate m × IsNoFlipFlop m
IsFunction m function.Opaque = ⊥

-- what a cell computes: nothing is known of one without a machine
abbrev pub IsFunctionOf : Option Machine → Function → Type 0
IsFunctionOf None f = f ≡ function.Opaque
IsFunctionOf (Some m) f = IsFunction m f
