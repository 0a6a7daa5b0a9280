-- Machines: equations, registers and one clock over named bits.
use Rattle.std.specs.Prelude.{ℕ, Bool, true, false, not, List, [], ◌∷◌, map, filter, Option, None, Some}
use Rattle.vlsi_base.specs.declared.name.Name.{Name}
use Rattle.vlsi_base.specs.declared.name.Port.{Port}
use Rattle.vlsi_base.specs.declared.name.Dir.{Dir}
use Rattle.vlsi_base.specs.declared.name.Dir.TheVariants.{In, Out}
use Rattle.bool_expr.specs.Expression.{Expression}
use Rattle.machine_core.specs.Named.{is_same_name}

-- a signal with the value of an expression
pub record Equation : Type 0 where
  pub name : Name
  pub expr : Expression

-- a bit of storage: at the clock's rise it takes `next` where `enable` is 1, and keeps its value elsewhere
pub record Register : Type 0 where
  pub name : Name
  pub next : Expression
  pub enable : Expression

pub record Machine : Type 0 where
  pub name : List ℕ
  -- the bits of the ports without vdd and vss, in the order of names
  pub ports : List Port
  pub clock : Option Name
  -- all names but the clock's; variable k of an expression is number k of them
  pub vars : List Name
  pub equations : List Equation
  -- in the order of names
  pub registers : List Register

abbrev pub is_input : Dir → Bool
is_input In = true
is_input Out = false

abbrev pub is_clock : Option Name → Name → Bool
is_clock None name = false
is_clock (Some clock) name = is_same_name clock name

abbrev pub names_of : List Port → List Name
names_of ports = map (λ p. p.name) ports

-- the bits of the input ports, in the order of names
abbrev pub input_ports : Machine → List Name
input_ports m = names_of (filter (λ p. is_input p.dir) m.ports)

-- the input bits but the clock, in the order of names: what a vector has a bit for
abbrev pub inputs : Machine → List Name
inputs m = filter (λ name. not (is_clock m.clock name)) (input_ports m)

-- the output bits in the order of names
abbrev pub outputs : Machine → List Name
outputs m = names_of (filter (λ p. not (is_input p.dir)) m.ports)

abbrev pub register_names : Machine → List Name
register_names m = map (λ r. r.name) m.registers
