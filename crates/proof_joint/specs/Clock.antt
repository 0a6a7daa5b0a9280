-- Machines as they are compared: a clock that loads nothing is an input like the others.
use Rattle.std.specs.Prelude.{ℕ, suc, ◌+◌, nat_lt, List, [], ◌∷◌, ◌++◌, map, length, Option, None, Some, if◌then◌else◌}
use Rattle.vlsi_base.specs.declared.name.Name.{Name}
use Rattle.vlsi_base.specs.Range.{rising}
use Rattle.bool_expr.specs.Renumbering.{renumbered}
use Rattle.machine_core.specs.Named.{is_same_name}
use Rattle.machine_core.specs.Machine.{Machine, Equation, Register, input_ports}
use Rattle.machine_core.specs.Order.{equation_names}

-- the place of the first name that is this one, and how many names there are where none is
abbrev pub name_place : Name → List Name → ℕ
name_place name [] = 0
name_place name (n ∷ names) = if is_same_name n name then 0 else suc (name_place name names)

-- so many numbers from 0 on, without the one at this place
abbrev pub numbers_without : ℕ → ℕ → List ℕ
numbers_without place count = map (λ k. if nat_lt k place then k else k + 1) (rising 0 count)

-- the same equation, where its names have these numbers
abbrev pub equation_over : List ℕ → Equation → Equation
equation_over numbers e = record { name = e.name; expr = renumbered numbers e.expr }

-- A machine without registers, with its clock among the inputs, at its place in the order of names; so each name behind it has a number
-- that is higher by one.
abbrev pub with_read_clock : Machine → Name → Machine
with_read_clock m clock = record {
  name = m.name;
  ports = m.ports;
  clock = None;
  vars = input_ports m ++ equation_names m;
  equations = map (equation_over (numbers_without (name_place clock (input_ports m)) (length m.vars))) m.equations;
  registers = [];
}

abbrev pub compared_by : List Register → Option Name → Machine → Machine
compared_by [] (Some clock) m = with_read_clock m clock
compared_by [] None m = m
compared_by (r ∷ rest) clock m = m

-- the machine itself; where it has a clock and no register, the one with its clock among the inputs
abbrev pub as_compared : Machine → Machine
as_compared m = compared_by m.registers m.clock m
