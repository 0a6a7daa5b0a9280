-- The machine that a proposal makes of a given one.
use Rattle.std.specs.Prelude.{◌≡◌, ◌⊎◌, ℕ, ◌<◌, ◌≤◌, List, ◌++◌, map}
use Rattle.std.specs.List.{AllZip}
use Rattle.bool_expr.specs.Expression.{Expression, size_of}
use Rattle.bool_expr.specs.Renumbering.{renumbered}
use Rattle.machine_core.specs.Machine.{Machine, Equation, Register, names_of, register_names}
use Rattle.machine_core.specs.Order.{held_names, equation_names}
use Rattle.machine_core.specs.Size.{machine_size}
use Rattle.machine_core.specs.View.{equation_view, register_view}
use Rattle.machine_walk.specs.Expansion.{held_count}
use Rattle.boom_muxes.specs.Names.{IsFreshText, new_names}
use Rattle.boom_check.specs.Kept.{behind_new, IsGivenOrSmaller, IsKept}
use Rattle.boom_check.specs.declared.assembling.Parts.{Parts}

-- what was given, over the numbers that the names have now, or a strictly smaller expression
abbrev pub IsSaid : List ℕ → Expression → Expression → Type 0
IsSaid numbers given made = (made ≡ renumbered numbers given) ⊎ (size_of made < size_of given)

abbrev pub IsSaidEquation : List ℕ → Equation → Equation → Type 0
IsSaidEquation numbers e f = (f.name ≡ e.name) × IsSaid numbers e.expr f.expr

abbrev pub IsSaidRegister : List ℕ → Register → Register → Type 0
IsSaidRegister numbers r q = (q.name ≡ r.name) × IsSaid numbers r.next q.next × IsSaid numbers r.enable q.enable

-- the names, equations and registers of a machine that keeps what it doesn't make smaller
pub record ArePartsOf (m : Machine) (p : Parts) : Type 0 where
  pub count : ℕ
  pub few : count ≤ machine_size m
  pub fresh : IsFreshText (names_of m.ports ++ m.vars) p.text
  pub vars : p.vars.items ≡ held_names m ++ (new_names p.text count ++ equation_names m)
  pub made : List Equation
  pub kept : List Equation
  pub equations : map equation_view p.equations.items ≡ made ++ kept
  pub new : map (λ e. e.name) made ≡ new_names p.text count
  pub said : AllZip (λ (e f : Equation). (f.name ≡ e.name) × IsGivenOrSmaller (behind_new (held_count m) count e.expr) f.expr) m.equations kept
  pub loads : AllZip (λ (r q : Register). (q.name ≡ r.name) × IsGivenOrSmaller (behind_new (held_count m) count r.next) q.next
      × IsGivenOrSmaller (behind_new (held_count m) count r.enable) q.enable) m.registers (map register_view p.registers.items)

-- The machine has the given one's name, ports, clock and names of registers, and keeps what it doesn't make smaller. Whether it does
-- the same isn't said.
pub record IsAssembled (m o : Machine) : Type 0 where
  pub name : o.name ≡ m.name
  pub ports : o.ports ≡ m.ports
  pub clock : o.clock ≡ m.clock
  pub registers : register_names o ≡ register_names m
  pub kept : IsKept m o
