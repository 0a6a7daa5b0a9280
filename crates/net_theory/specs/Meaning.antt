-- When nodes have the meaning of a machine.
use Rattle.std.specs.Prelude.{◌≡◌, ℕ, ◌+◌, ◌<◌, Bool, List, length}
use Rattle.bool_expr.specs.Expression.{bit}
use Rattle.machine_core.specs.Machine.{Machine, inputs, outputs}
use Rattle.machine_core.specs.Cycles.{Settles, outs, next}
use Rattle.net_theory.specs.Sources.{Values, Roots, AreHeld}

-- The first nodes are the inputs and the registers; and wherever the machine settles, the roots have the bits of its
-- outputs and those that its registers load.
pub record Means (m : Machine) (f : Values) (r : Roots) : Type 0 where
  pub held_inputs : (i s : List Bool) → AreHeld m i s → (k : ℕ) → k < length (inputs m) → f i s k ≡ bit i k
  pub held_registers : (i s : List Bool) → AreHeld m i s → (k : ℕ) → k < length m.registers
      → f i s (length (inputs m) + k) ≡ bit s k
  pub shown : (i s w : List Bool) → Settles m s i w → (k : ℕ) → k < length (outputs m) → f i s (r.output k) ≡ bit (outs m w) k
  pub loaded : (i s w : List Bool) → Settles m s i w → (k : ℕ) → k < length m.registers → f i s (r.load k) ≡ bit (next m w) k
