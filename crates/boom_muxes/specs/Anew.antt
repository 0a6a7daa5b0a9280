-- A machine with new inner signals before the equations of a given one.
use Rattle.std.specs.Prelude.{◌≡◌, ℕ, List, ◌++◌, length}
use Rattle.std.specs.List.{All}
use Rattle.bool_expr.specs.Expression.{IsOver}
use Rattle.machine_core.specs.Machine.{Machine, names_of, register_names}
use Rattle.machine_core.specs.Order.{held_names, equation_names, EachReadsBelow}
use Rattle.machine_walk.specs.Expansion.{held_count}
use Rattle.boom_muxes.specs.Names.{IsFreshText, new_names}

-- It has the ports, the clock, the registers' names and the equations' names of the given machine, and so many equations of new names
-- before those; each equation reads what stands before it.
pub record IsAnew (m o : Machine) : Type 0 where
  pub text : List ℕ
  pub count : ℕ
  pub fresh : IsFreshText (names_of m.ports ++ m.vars) text
  pub name : o.name ≡ m.name
  pub ports : o.ports ≡ m.ports
  pub clock : o.clock ≡ m.clock
  pub vars : o.vars ≡ held_names m ++ (new_names text count ++ equation_names m)
  pub equations : equation_names o ≡ new_names text count ++ equation_names m
  pub registers : register_names o ≡ register_names m
  pub reads : EachReadsBelow (held_count m) o.equations
  pub loads : All (λ r. IsOver r.next (length o.vars) × IsOver r.enable (length o.vars)) o.registers
