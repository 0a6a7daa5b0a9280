-- The names that a walk through an expression's expansion meets, and their order.
use Rattle.std.specs.Prelude.{◌≡◌, ◌↔◌, ℕ, ◌+◌, ◌<◌, Bool, true, List, length, slice_get, Some}
use Rattle.vlsi_base.specs.Member.{In}
use Rattle.bool_expr.specs.Expression.{Expression, variables, bit}
use Rattle.bool_expr.specs.Support.{first_meetings}
use Rattle.machine_core.specs.Machine.{Machine, Equation}
use Rattle.machine_walk.specs.Expansion.{expansion, held_count}

-- the inputs and registers of an expression's expansion, in the order in which a walk from left to right first meets them
abbrev pub order_of : Machine → Expression → List ℕ
order_of m e = first_meetings (variables (expansion m e))

-- an expression reads the name with this number, or an inner signal that it reads has an equation from which the walk goes on
pub data Meets (m : Machine) : Expression → ℕ → Type 0 where
  reads : {e : Expression} {k : ℕ} → In k (variables e) → Meets m e k
  through : {e : Expression} {k : ℕ} (j : ℕ) (x : Equation) → In (held_count m + j) (variables e) → slice_get m.equations j ≡ Some x
      → Meets m x.expr k → Meets m e k

-- the marks tell of each name whether the walk meets it
pub record AreMet (m : Machine) (e : Expression) (met : List Bool) : Type 0 where
  pub each : length met ≡ length m.vars
  pub marked : (k : ℕ) → k < length m.vars → (bit met k ≡ true) ↔ Meets m e k
