-- Machines whose equations stand in an order in which each reads only what is known before it.
use Rattle.std.specs.Prelude.{◌≡◌, ℕ, ◌+◌, Bool, List, [], ◌∷◌, ◌++◌, map, length}
pub use Rattle.vlsi_base.specs.Member.{In, here, there, AllDifferent}
use Rattle.vlsi_base.specs.declared.name.Name.{Name}
use Rattle.bool_expr.specs.Expression.{IsOver}
use Rattle.machine_core.specs.Machine.{Machine, Equation, inputs, register_names}
use Rattle.machine_core.specs.Cycles.{Settles}

-- the names whose bits are given in each cycle: of inputs and of registers
abbrev pub held_names : Machine → List Name
held_names m = inputs m ++ register_names m

abbrev pub equation_names : Machine → List Name
equation_names m = map (λ e. e.name) m.equations

-- Each equation reads only variables below n, where n grows by one from equation to equation.
abbrev pub EachReadsBelow : ℕ → List Equation → Type 0
EachReadsBelow n [] = Unit {0}
EachReadsBelow n (e ∷ rest) = IsOver e.expr n × EachReadsBelow (n + 1) rest

pub record IsOrdered (m : Machine) : Type 0 where
  -- the names are those of inputs, registers and equations, in this order, and no two of them are one
  pub vars : m.vars ≡ held_names m ++ equation_names m
  pub different : AllDifferent m.vars
  -- each equation reads only inputs, registers and earlier equations
  pub below : EachReadsBelow (length (held_names m)) m.equations

-- An ordered machine has exactly one valuation for each contents of its registers and each input vector.
abbrev pub SettlesOnce : Type 0
SettlesOnce =
    (m : Machine) (s i : List Bool) → IsOrdered m → length s ≡ length m.registers → length i ≡ length (inputs m)
    → (w : List Bool) × Settles m s i w × ((other : List Bool) → Settles m s i other → other ≡ w)
