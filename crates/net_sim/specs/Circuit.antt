-- A netlist of cells as a circuit, and what patterns come to on it.
use Rattle.std.specs.Prelude.{◌↔◌, ℕ, true, List, Option}
use Rattle.vlsi_base.specs.declared.name.Name.{Name}
use Rattle.machine_core.specs.Machine.{Machine, inputs}
use Rattle.net_core.specs.declared.pins.ModelPins.{ModelPins}
use Rattle.net_core.specs.Netlist.{Netlist as InMemory}
use Rattle.cell_model.specs.Library.{Library}
use Rattle.net_meaning.specs.Netlist.{AbstractNetlist, port}
use Rattle.net_meaning.specs.Behaviour.{Contents, Valuation, bit_of, NetSettles, net_next}
use Rattle.cell_pins.specs.Table.{IsTableOf}
use Rattle.net_right.specs.Condition.{MeetsCondition}
use Rattle.net_right.specs.View.{IsSeenAs}
use Rattle.pat_meaning.specs.declared.patterns.Patterns.{Patterns}
use Rattle.pat_meaning.specs.Circuit.{Circuit}
use Rattle.pat_meaning.specs.Answers.{AreFor, IsFilledBy, DiffersOn, IsFilled, DiffersAt}
use Rattle.net_machine.specs.Signals.{net_inputs, IsClockPort}
use Rattle.net_machine.specs.Step.{no_contents, IsMachineOfNetlist}

-- the netlist with these inputs and this clock: what its instances hold starts as 0, and a name has the bit of its port's class
abbrev pub of_netlist : AbstractNetlist → Library → List Name → Option Name → Circuit
of_netlist k l input_names clock = record {
  State = Contents;
  Valuation = Valuation;
  clock = clock;
  inputs = input_names;
  start = no_contents k l;
  settles = NetSettles k l input_names clock;
  next = net_next k l;
  value = λ w name. bit_of k w.classes (port name);
}

-- the netlist gives what the patterns expect, and `out` are they with every output filled in, whatever its classes are called
abbrev pub IsFilledOn : InMemory → Library → List ModelPins → Patterns → Patterns → Type 0
IsFilledOn n l table p out =
    (k : AbstractNetlist) → IsSeenAs n k → (clock : Option Name) × IsClockPort table n clock × IsFilledBy (of_netlist k l (net_inputs n clock) clock) p out

-- the first bit of the netlist that isn't what the patterns expect
abbrev pub DiffersOnNetlist : InMemory → Library → List ModelPins → Patterns → ℕ → Name → Type 0
DiffersOnNetlist n l table p number bit =
    (k : AbstractNetlist) → IsSeenAs n k → (clock : Option Name) × IsClockPort table n clock × DiffersOn (of_netlist k l (net_inputs n clock) clock) p number bit

-- so it is with the table of pins of all of the library's cells, where the netlist meets what each stage asks

abbrev pub IsFilledWith : InMemory → Library → Patterns → Patterns → Type 0
IsFilledWith n l p out = (table : List ModelPins) → IsTableOf l true table → MeetsCondition table n → IsFilledOn n l table p out

abbrev pub DiffersWith : InMemory → Library → Patterns → ℕ → Name → Type 0
DiffersWith n l p number bit = (table : List ModelPins) → IsTableOf l true table → MeetsCondition table n → DiffersOnNetlist n l table p number bit

-- patterns come to the same on a netlist and on its machine
abbrev pub SimulatesAlike : Type 0
SimulatesAlike =
    (n : InMemory) (l : Library) (table : List ModelPins) (m : Machine) (k : AbstractNetlist) (p : Patterns)
    → IsMachineOfNetlist n l table m → IsSeenAs n k → AreFor m.ports p
    → ((out : Patterns) → IsFilled m p out ↔ IsFilledBy (of_netlist k l (inputs m) m.clock) p out)
    × ((number : ℕ) (bit : Name) → DiffersAt m p number bit ↔ DiffersOn (of_netlist k l (inputs m) m.clock) p number bit)
