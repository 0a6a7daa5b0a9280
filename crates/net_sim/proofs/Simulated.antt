-- What a simulation of a netlist's machine says of the netlist.
use Rattle.std.proofs.Common.{◌≡◌, ℕ, List, ap, sym, subst, filter}
use Rattle.std.specs.Prelude.{not}
use Rattle.vlsi_base.specs.declared.name.Name.{Name}
use Rattle.vlsi_base.specs.declared.name.Port.{Port}
use Rattle.machine_core.specs.Machine.{Machine, is_input, is_clock, names_of, inputs}
use Rattle.net_core.specs.declared.pins.ModelPins.{ModelPins}
use Rattle.net_core.specs.Netlist.{Netlist as InMemory}
use Rattle.cell_model.specs.Library.{Library}
use Rattle.pat_meaning.specs.declared.patterns.Patterns.{Patterns}
use Rattle.pat_meaning.specs.Answers.{AreFor, IsFilledBy, DiffersOn, IsFilled, DiffersAt}
use Rattle.net_machine.specs.Signals.{signal_ports, net_inputs, MeetsConditionWith}
use Rattle.net_machine.specs.Step.{IsMachineOfNetlist, IsMachineWith}
use Rattle.net_sim.specs.Circuit.{of_netlist, SimulatesAlike, IsFilledOn, DiffersOnNetlist, IsFilledWith, DiffersWith}

-- what a vector has a bit for is the same of both
inputs_same : (n : InMemory) (m : Machine) → m.ports ≡ signal_ports n.ports → inputs m ≡ net_inputs n m.clock
inputs_same n m e = ap (λ (ps : List Port). filter (λ name. not (is_clock m.clock name)) (names_of (filter (λ p. is_input p.dir) ps))) e

machine_ports : (n : InMemory) (l : Library) (table : List ModelPins) (m : Machine) (p : Patterns) → IsMachineOfNetlist n l table m → AreFor (signal_ports n.ports) p → AreFor m.ports p
machine_ports n l table m p is for = subst (λ (ps : List Port). AreFor ps p) (sym is.ports) for

filled_on : (n : InMemory) (l : Library) (table : List ModelPins) (m : Machine) (p out : Patterns) → SimulatesAlike → IsMachineOfNetlist n l table m → AreFor (signal_ports n.ports) p
    → IsFilled m p out → IsFilledOn n l table p out
filled_on n l table m p out law is for h k seen =
    let alike = law n l table m k p is seen (machine_ports n l table m p is for) in
    (m.clock, is.clock, subst (λ (ns : List Name). IsFilledBy (of_netlist k l ns m.clock) p out) (inputs_same n m is.ports) ((alike.0 out).0 h))

differs_on : (n : InMemory) (l : Library) (table : List ModelPins) (m : Machine) (p : Patterns) (number : ℕ) (bit : Name) → SimulatesAlike → IsMachineOfNetlist n l table m → AreFor (signal_ports n.ports) p
    → DiffersAt m p number bit → DiffersOnNetlist n l table p number bit
differs_on n l table m p number bit law is for h k seen =
    let alike = law n l table m k p is seen (machine_ports n l table m p is for) in
    (m.clock, is.clock, subst (λ (ns : List Name). DiffersOn (of_netlist k l ns m.clock) p number bit) (inputs_same n m is.ports) ((alike.1 number bit).0 h))

-- ---- the same with any table

pub filled_with : (n : InMemory) (l : Library) (m : Machine) (p out : Patterns) → SimulatesAlike → IsMachineWith n l m → AreFor (signal_ports n.ports) p → IsFilled m p out
    → IsFilledWith n l p out
filled_with n l m p out law is for h = λ table listed meets. filled_on n l table m p out law (is table listed meets) for h

pub differs_with : (n : InMemory) (l : Library) (m : Machine) (p : Patterns) (number : ℕ) (bit : Name) → SimulatesAlike → IsMachineWith n l m → AreFor (signal_ports n.ports) p
    → DiffersAt m p number bit → DiffersWith n l p number bit
differs_with n l m p number bit law is for h = λ table listed meets. differs_on n l table m p number bit law (is table listed meets) for h

pub for_machine : (n : InMemory) (l : Library) (m : Machine) (p : Patterns) → MeetsConditionWith l n → IsMachineWith n l m → AreFor (signal_ports n.ports) p → AreFor m.ports p
for_machine n l m p some is for = machine_ports n l some.0 m p (is some.0 some.1 some.2) for
