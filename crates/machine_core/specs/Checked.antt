-- What is known of each machine that passed its checks.
use Rattle.std.specs.Prelude.{◌≡◌, ◌≢◌, List, [], ◌++◌, None, Some, length, codes}
use Rattle.std.specs.List.{All, AllPairs}
use Rattle.std.specs.declared.cmp.Ordering.TheVariants.{Less}
use Rattle.vlsi_base.specs.declared.name.Name.{Name}
use Rattle.vlsi_base.specs.Name.{name_cmp}
use Rattle.bool_expr.specs.Expression.{IsOver}
use Rattle.machine_core.specs.Machine.{Machine, names_of, input_ports, outputs, register_names}
use Rattle.machine_core.specs.Order.{In, equation_names, IsOrdered}

-- each name stands before the later ones in the order of names
abbrev pub AreInOrder : List Name → Type 0
AreInOrder names = AllPairs (λ a b. name_cmp a b ≡ Less) names

-- the name is no supply: vdd and vss are constants, and no names of a machine
abbrev pub IsNoSupply : Name → Type 0
IsNoSupply n = (n.text ≢ codes "vdd") × (n.text ≢ codes "vss")

-- the clock is an input, and it is read and driven nowhere
pub record IsClockOf (m : Machine) (clock : Name) : Type 0 where
  pub port : In clock (input_ports m)
  pub apart : In clock m.vars → ⊥

-- Its ports and registers stand in the order of names, each of its outputs has an equation, its registers have a clock, and
-- its equations stand in an order in which each reads only inputs, registers and earlier equations.
pub record IsChecked (m : Machine) : Type 0 where
  pub ports : AreInOrder (names_of m.ports)
  pub registers : AreInOrder (register_names m)
  pub supplies : All IsNoSupply (names_of m.ports ++ m.vars)
  pub driven : (name : Name) → In name (outputs m) → In name (equation_names m)
  pub clock : (name : Name) → m.clock ≡ Some name → IsClockOf m name
  pub clocked : m.clock ≡ None → m.registers ≡ []
  pub ordered : IsOrdered m
  -- what registers load reads the machine's names
  pub loads : All (λ r. IsOver r.next (length m.vars) × IsOver r.enable (length m.vars)) m.registers
