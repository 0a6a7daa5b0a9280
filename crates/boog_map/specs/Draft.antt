-- The draft of a mapped netlist: its ports and instances with the signal of each terminal.
use Rattle.std.specs.Prelude.{◌≡◌, ℕ, ◌+◌, ◌<◌, ◌^◌, List, [], ◌∷◌, ◌++◌, map, length, Option, None, Some, slice_index_or, unwrap_or, if◌then◌else◌}
use Prim.Native.Nat.{suc}
use Rattle.std.specs.List.{flat_map}
use Rattle.vlsi_base.specs.declared.name.Name.{Name}
use Rattle.vlsi_base.specs.declared.name.Port.{Port}
use Rattle.vlsi_base.specs.declared.name.Terminal.{Terminal}
use Rattle.vlsi_base.specs.Names.{vdd, vss}
use Rattle.vlsi_base.specs.Member.{In}
use Rattle.machine_core.specs.Machine.{is_input, is_clock}
use Rattle.machine_core.specs.Named.{is_same_name}
use Rattle.net_core.specs.Places.{IsThere, NoneTwice}
use Rattle.net_core.specs.Netlist.{Instance, port, pin_of, terminals_of, AreInOrder}
use Rattle.net_core.specs.Joins.{Draft}
use Rattle.net_meaning.specs.Agreement.{register_instance}
use Rattle.net_meaning.specs.Well.{gate_instance}
use Rattle.net_theory.specs.Sources.{Source, high, low, ticking, node}
use Rattle.cell_match.specs.declared.gate.Gate.{Gate}
use Rattle.boog_map.specs.declared.part.Tie.{Tie}
use Rattle.boog_map.specs.declared.part.Tie.TheVariants as tie
use Rattle.boog_map.specs.declared.choice.Role.TheVariants as role
use Rattle.boog_map.specs.declared.choice.Parts.{Parts}
use Rattle.boog_map.specs.declared.place.Signal.{Signal}
use Rattle.boog_map.specs.declared.place.Signal.TheVariants as signal
use Rattle.boog_map.specs.declared.place.Spot.{Spot}
use Rattle.boog_map.specs.declared.ports.TiedPort.{TiedPort}
use Rattle.boog_map.specs.declared.ports.PortUse.{PortUse}
use Rattle.boog_map.specs.declared.ports.PortUse.TheVariants as port_use_of
use Rattle.boog_map.specs.declared.drivers.Drivers.{Drivers}
use Rattle.boog_map.specs.declared.build.Sketch.{Sketch}
use Rattle.boog_map.specs.Tied.{part_of}

-- ---- ports

-- what a port is for: vdd and vss are supplies, and the clock is no input
abbrev pub port_use : Option Name → Port → PortUse
port_use clock p =
    if is_same_name p.name vdd then port_use_of.High
    else if is_same_name p.name vss then port_use_of.Low
    else if is_input p.dir then (if is_clock clock p.name then port_use_of.Clock else port_use_of.Input)
    else port_use_of.Output

-- the signal of a port, behind i inputs and o outputs
abbrev pub use_signal : List ℕ → ℕ → ℕ → PortUse → Signal
use_signal outs i o port_use_of.High = signal.High
use_signal outs i o port_use_of.Low = signal.Low
use_signal outs i o port_use_of.Output = signal.Node (slice_index_or outs o 0)
use_signal outs i o port_use_of.Clock = signal.Clock
use_signal outs i o port_use_of.Input = signal.Node i

abbrev pub inputs_after : ℕ → PortUse → ℕ
inputs_after i port_use_of.High = i
inputs_after i port_use_of.Low = i
inputs_after i port_use_of.Output = i
inputs_after i port_use_of.Clock = i
inputs_after i port_use_of.Input = i + 1

abbrev pub outputs_after : ℕ → PortUse → ℕ
outputs_after o port_use_of.High = o
outputs_after o port_use_of.Low = o
outputs_after o port_use_of.Output = o + 1
outputs_after o port_use_of.Clock = o
outputs_after o port_use_of.Input = o

-- an output has a number
abbrev pub HasOutput : List ℕ → ℕ → PortUse → Type 0
HasOutput outs o port_use_of.High = Unit {0}
HasOutput outs o port_use_of.Low = Unit {0}
HasOutput outs o port_use_of.Output = o < length outs
HasOutput outs o port_use_of.Clock = Unit {0}
HasOutput outs o port_use_of.Input = Unit {0}

-- the ports with their signals, behind i inputs and o outputs
abbrev pub tied_ports : Option Name → List ℕ → ℕ → ℕ → List Port → List TiedPort
tied_ports clock outs i o [] = []
tied_ports clock outs i o (p ∷ ps) =
    record { name = p.name; signal = use_signal outs i o (port_use clock p) }
    ∷ tied_ports clock outs (inputs_after i (port_use clock p)) (outputs_after o (port_use clock p)) ps

-- ---- instances

-- the instance of register k, where the first register has number `front`; it reads what it loads, and the clock
abbrev pub register_reads : ℕ → List Signal
register_reads load = signal.Node load ∷ signal.Clock ∷ []

abbrev pub register_spot : ℕ → ℕ → ℕ → Spot
register_spot front k load = record { name = register_instance k; role = role.Register; shown = front + k; reads = register_reads load }

-- the instances of registers by what they load, the first of which is register k
abbrev pub register_spots : ℕ → ℕ → List ℕ → List Spot
register_spots front k [] = []
register_spots front k (load ∷ rest) = register_spot front k load ∷ register_spots front (suc k) rest

abbrev pub node_signals : List ℕ → List Signal
node_signals numbers = map (λ a. signal.Node a) numbers

-- the instance of a gate that stands for the node of this number, as gate k; it reads its leaves
abbrev pub gate_spot : ℕ → ℕ → Gate → Spot
gate_spot k number g = record { name = gate_instance k; role = role.Gate g.cell; shown = number; reads = node_signals g.leaves.items }

-- the instances of the nodes that have a gate, from gate k on, where the first node has this number
abbrev pub gate_spots : ℕ → ℕ → List (Option Gate) → List Spot
gate_spots number k [] = []
gate_spots number k (None ∷ rest) = gate_spots (suc number) k rest
gate_spots number k (Some g ∷ rest) = gate_spot k number g ∷ gate_spots (suc number) (suc k) rest

-- the output pin of an instance
abbrev pub output_terminal : Parts → Spot → Terminal
output_terminal ps s = pin_of s.name (part_of ps s.role).output

-- the terminal that shows each node, where vss stands for one that has no gate
abbrev pub gate_drivers : Parts → ℕ → ℕ → List (Option Gate) → List Terminal
gate_drivers ps number k [] = []
gate_drivers ps number k (None ∷ rest) = port vss ∷ gate_drivers ps (suc number) k rest
gate_drivers ps number k (Some g ∷ rest) = output_terminal ps (gate_spot k number g) ∷ gate_drivers ps (suc number) (suc k) rest

abbrev pub instance_of : Parts → Spot → Instance
instance_of ps s = record { name = s.name; model = (part_of ps s.role).model; pins = (part_of ps s.role).pins }

-- ---- signals

-- what a pin has that is tied so
abbrev pub tied_signal : Spot → Tie → Signal
tied_signal s tie.High = signal.High
tied_signal s tie.Low = signal.Low
tied_signal s tie.Shown = signal.Node s.shown
tied_signal s (tie.Read place) = slice_index_or s.reads place signal.Low

-- terminals with their signals
abbrev pub port_signals : List TiedPort → List (Terminal × Signal)
port_signals ports = map (λ p. (port p.name, p.signal)) ports

abbrev pub spot_signals : Parts → Spot → List (Terminal × Signal)
spot_signals ps s = map (λ p. (pin_of s.name p.name, tied_signal s p.tie)) (part_of ps s.role).ties.items

abbrev pub all_signals : Sketch → List (Terminal × Signal)
all_signals k = port_signals k.ports.items ++ flat_map (spot_signals k.parts) k.spots.items

-- a signal as a source
abbrev pub source_of_signal : Signal → Source
source_of_signal signal.High = high
source_of_signal signal.Low = low
source_of_signal signal.Clock = ticking
source_of_signal (signal.Node a) = node a

-- ---- drivers

-- the terminal that drives a signal
abbrev pub driver : Drivers → Signal → Terminal
driver d signal.High = d.high
driver d signal.Low = d.low
driver d signal.Clock = d.clock
driver d (signal.Node a) = slice_index_or d.nodes.items a d.low

abbrev pub IsNumbered : Drivers → Signal → Type 0
IsNumbered d signal.High = Unit {0}
IsNumbered d signal.Low = Unit {0}
IsNumbered d signal.Clock = Unit {0}
IsNumbered d (signal.Node a) = a < length d.nodes.items

pub record AreDrivers (clock : Option Name) (nodes : List Terminal) (d : Drivers) : Type 0 where
  pub on_high : d.high ≡ port vdd
  pub on_low : d.low ≡ port vss
  pub on_clock : d.clock ≡ port (unwrap_or clock vss)
  pub on_nodes : d.nodes.items ≡ nodes

-- each terminal is joined to the driver of its signal
abbrev pub join_of : Drivers → Terminal × Signal → Terminal × Terminal
join_of d t = (t.0, driver d t.1)

-- ---- the draft

abbrev pub with_instances : Draft → List Instance → Draft
with_instances d more = record d { instances = d.instances ++ more }

abbrev pub with_joins : Draft → List (Terminal × Terminal) → Draft
with_joins d more = record d { joins = d.joins ++ more }

-- these terminals are there, and so are the drivers of their signals
abbrev pub CanJoin : List Terminal → Drivers → List (Terminal × Signal) → Type 0
CanJoin terminals d told =
    (t : Terminal × Signal) → In t told → IsThere terminals t.0 × IsThere terminals (driver d t.1) × IsNumbered d t.1

abbrev pub draft_by : List ℕ → List Port → Sketch → Draft
draft_by name ports k = record {
  name = name;
  ports = ports;
  instances = map (instance_of k.parts) k.spots.items;
  joins = map (join_of k.drivers) (all_signals k);
}

-- what the parts of a draft have to be
pub record IsDrawable (ports : List Port) (k : Sketch) : Type 0 where
  pub order : AreInOrder (map (λ p. p.name) ports)
  pub pins : (s : Spot) → In s k.spots.items → AreInOrder (part_of k.parts s.role).pins
  pub names : NoneTwice (map (λ s. s.name) k.spots.items)
  pub many : length k.spots.items < 2 ^ 32
  pub few : length (terminals_of ports (map (instance_of k.parts) k.spots.items)) < 2 ^ 32
  pub joins : CanJoin (terminals_of ports (map (instance_of k.parts) k.spots.items)) k.drivers (all_signals k)

-- instances can be put behind those of a draft that has none
pub record IsPlaceable (d : Draft) (ps : Parts) (spots : List Spot) : Type 0 where
  pub none : d.instances ≡ []
  pub pins : (s : Spot) → In s spots → AreInOrder (part_of ps s.role).pins
  pub names : NoneTwice (map (λ s. s.name) spots)
  pub many : length spots < 2 ^ 32
  pub few : length (terminals_of d.ports (map (instance_of ps) spots)) < 2 ^ 32
