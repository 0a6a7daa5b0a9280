-- What a simulation needs to know of a circuit, and a machine as one.
use Rattle.std.specs.Prelude.{Bool, false, List, length, replicate, Option}
use Rattle.vlsi_base.specs.declared.name.Name.{Name}
use Rattle.machine_core.specs.Named.{value_at}
use Rattle.machine_core.specs.Machine.{Machine, inputs}
use Rattle.machine_core.specs.Cycles.{Settles, next}

pub record Circuit : Type 1 where
  -- what it holds from one cycle to the next, and what its names have in a cycle
  pub State : Type 0
  pub Valuation : Type 0
  -- the port by which it loads
  pub clock : Option Name
  -- its inputs but the clock: what a vector has a bit for
  pub inputs : List Name
  -- what it holds before the first pattern
  pub start : State
  -- from these contents and under this input vector, this is a valuation
  pub settles : State → List Bool → Valuation → Type 0
  -- what it holds after the clock's rise
  pub next : Valuation → State
  -- what a name has
  pub value : Valuation → Name → Bool

-- a machine: its registers start as 0
abbrev pub of_machine : Machine → Circuit
of_machine m = record {
  State = List Bool;
  Valuation = List Bool;
  clock = m.clock;
  inputs = inputs m;
  start = replicate (length m.registers) false;
  settles = Settles m;
  next = next m;
  value = value_at m.vars;
}
