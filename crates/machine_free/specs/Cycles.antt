-- What a machine may do in a cycle whose outputs are left free in part, and its runs.
use Rattle.std.specs.Prelude.{◌≡◌, ◌⊎◌, ◌↔◌, Bool, true, List, length}
use Rattle.std.specs.List.{AllZip}
use Rattle.bool_expr.specs.Expression.{Expression, val}
use Rattle.machine_core.specs.Named.{value_at, values_at}
use Rattle.machine_core.specs.Machine.{Machine, inputs, register_names}
use Rattle.machine_core.specs.Runs.{Run}
use Rattle.machine_core.specs.Cycles.{outs, next, RunOf}
use Rattle.machine_free.specs.Free.{AreFreed}

-- the bit is the value with each free bit 0, or that with each free bit 1; where these are equal, it is fixed
abbrev pub May : Expression → Expression → List Bool → Bool → Type 0
May low high w b = (b ≡ val low w) ⊎ (b ≡ val high w)

-- w is a valuation of the names, from the contents s of the registers and under the input vector i: each equation's name has a bit
-- that it may have. For all but free outputs that is the value of the one expression.
pub record FreeSettles (low high : Machine) (s i w : List Bool) : Type 0 where
  pub each : length w ≡ length low.vars
  pub inputs : values_at low.vars w (inputs low) ≡ i
  pub registers : values_at low.vars w (register_names low) ≡ s
  pub equations : AllZip (λ e f. May e.expr f.expr w (value_at low.vars w e.name)) low.equations high.equations

-- from the contents s, the vectors v may give the outputs y; the registers load what they load in a machine
abbrev pub FreeRunOf : Machine → Machine → List Bool → List (List Bool) → List (List Bool) → Type 0
FreeRunOf low high s v y = Run (FreeSettles low high) (outs low) (next low) s v y

-- Where nothing is left free, the two machines are one, and it may do what it does.
abbrev pub NothingFree : Type 0
NothingFree = (m : Machine) (s : List Bool) (v y : List (List Bool)) → FreeRunOf m m s v y ↔ RunOf m s v y

-- With each free bit 1 the value is at least that with each 0. So it is fixed to 1 where the first is 1, and to 0 where the second is 0.
abbrev pub FreeIsGreater : Type 0
FreeIsGreater = (low high : Expression) (w : List Bool) → AreFreed low high → val low w ≡ true → val high w ≡ true
