-- A netlist of cells and a machine in step, cycle for cycle.
use Rattle.std.specs.Prelude.{◌≡◌, Bool, true, false, List, [], ◌∷◌, map, length, replicate, Option, None, Some}
use Rattle.std.specs.List.{flat_map}
use Rattle.vlsi_base.specs.declared.name.Name.{Name}
use Rattle.vlsi_base.specs.Member.{In}
use Rattle.vlsi_base.specs.Range.{rising}
use Rattle.bool_expr.specs.Expression.{bit}
use Rattle.machine_core.specs.Named.{value_at}
use Rattle.machine_core.specs.Machine.{Machine, inputs, names_of}
use Rattle.machine_core.specs.Cycles.{Settles, next, AreVectors}
use Rattle.machine_core.specs.Order.{IsOrdered}
use Rattle.net_core.specs.declared.pins.ModelPins.{ModelPins}
use Rattle.net_core.specs.Netlist.{Netlist as InMemory}
use Rattle.cell_model.specs.Cell.{Function, gate, flip_flop, other, opaque, Cell}
use Rattle.cell_model.specs.Library.{Library, cell_of}
use Rattle.cell_pins.specs.Table.{IsTableOf}
use Rattle.net_meaning.specs.Netlist.{Member, AbstractNetlist, port}
use Rattle.net_meaning.specs.Behaviour.{Contents, Valuation, bit_of, NetSettles, model_of, cell_at, net_next, NetTrace}
use Rattle.net_right.specs.Condition.{MeetsCondition}
use Rattle.net_right.specs.View.{IsSeenAs}
use Rattle.net_machine.specs.Signals.{signal_ports, IsClockPort}

-- what an instance holds, bit for bit: a flip-flop one bit, and another machine one for each of its registers
abbrev pub held_in : Function → List Bool → List Bool
held_in (gate e) xs = []
held_in (flip_flop data_pin clock_pin) xs = bit xs 0 ∷ []
held_in (other m) xs = map (bit xs) (rising 0 (length m.registers))
held_in opaque xs = []

abbrev pub held_at : Option Cell → List Bool → List Bool
held_at None xs = []
held_at (Some c) xs = held_in c.function xs

-- what the instances hold, one after another
abbrev pub held_by : Library → List Member → Contents → List Bool
held_by l ones t = flat_map (λ one. held_at (cell_of l one.model) (t one.name)) ones

-- an instance of another machine holds a bit for each of its registers
abbrev pub FitsContents : AbstractNetlist → Library → Contents → Type 0
FitsContents k l t = (one : Member) (c : Cell) (m : Machine) → In one k.instances → cell_of l one.model ≡ Some c → c.function ≡ other m
    → length (t one.name) ≡ length m.registers

-- what an instance holds at the start, by its function: a flip-flop the bit 0, and another machine 0 in each of its registers
abbrev pub zeros : Function → List Bool
zeros (gate e) = []
zeros (flip_flop data_pin clock_pin) = false ∷ []
zeros (other m) = replicate (length m.registers) false
zeros opaque = []

abbrev pub zeros_of : Option Cell → List Bool
zeros_of None = []
zeros_of (Some c) = zeros c.function

-- the contents in which all bits are 0
abbrev pub no_contents : AbstractNetlist → Library → Contents
no_contents k l owner = zeros_of (cell_at l (model_of k.instances owner))

-- a port has in both valuations the same bit
abbrev pub ShowAlike : AbstractNetlist → Machine → Valuation → List Bool → Type 0
ShowAlike k m w x = (name : Name) → In name (names_of m.ports) → bit_of k w.classes (port name) ≡ value_at m.vars x name

-- From the contents t and under the vector i, w is a valuation of the netlist and x one of the machine; they give each class and
-- each port the same bit, and after the clock's rise the registers hold what the instances hold.
pub record AreInStep (k : AbstractNetlist) (l : Library) (m : Machine) (held : Contents → List Bool) (bits : List Bool → List Bool)
    (t : Contents) (i : List Bool) (w : Valuation) (x : List Bool) : Type 0 where
  pub net : NetSettles k l (inputs m) m.clock t i w
  pub machine : Settles m (held t) i x
  pub classes : w.classes ≡ bits x
  pub ports : ShowAlike k m w x
  pub loads : next m x ≡ held (net_next k l w)

-- Contents and valuations of the netlist and of the machine go together, both ways.
pub record KeepsStep (k : AbstractNetlist) (l : Library) (m : Machine) : Type 0 where
  -- what the registers hold, where the instances hold these bits
  pub held : Contents → List Bool
  -- the bits of the classes in a valuation of the machine
  pub bits : List Bool → List Bool
  pub each : (t : Contents) → length (held t) ≡ length m.registers
  pub start : held (no_contents k l) ≡ replicate (length m.registers) false
  pub starts : FitsContents k l (no_contents k l)
  pub stays : (w : Valuation) → FitsContents k l (net_next k l w)
  pub forth : (t : Contents) (i : List Bool) (w : Valuation) → NetSettles k l (inputs m) m.clock t i w
      → (x : List Bool) × AreInStep k l m held bits t i w x
  pub back : (t : Contents) (i x : List Bool) → FitsContents k l t → Settles m (held t) i x
      → (w : Valuation) × AreInStep k l m held bits t i w x

-- The machine is the netlist's: it has its name, its ports but vdd and vss, and its clock, and it keeps step with it, whatever its
-- classes are called.
pub record IsMachineOfNetlist (n : InMemory) (l : Library) (table : List ModelPins) (m : Machine) : Type 0 where
  pub name : m.name ≡ n.name
  pub ports : m.ports ≡ signal_ports n.ports
  pub clock : IsClockPort table n m.clock
  pub step : (k : AbstractNetlist) → IsSeenAs n k → KeepsStep k l m

-- And its registers are those of the instances in their order: they hold what the instances hold, one after another.
pub record IsMachineInOrder (n : InMemory) (l : Library) (table : List ModelPins) (m : Machine) : Type 0 where
  pub of_netlist : IsMachineOfNetlist n l table m
  pub holds : (k : AbstractNetlist) (seen : IsSeenAs n k) (t : Contents) → KeepsStep.held (of_netlist.step k seen) t ≡ held_by l k.instances t

-- it is that with the table of pins of all of the library's cells, where the netlist meets what each stage asks
abbrev pub IsMachineWith : InMemory → Library → Machine → Type 0
IsMachineWith n l m = (table : List ModelPins) → IsTableOf l true table → MeetsCondition table n → IsMachineOfNetlist n l table m

abbrev pub IsInOrderWith : InMemory → Library → Machine → Type 0
IsInOrderWith n l m = (table : List ModelPins) → IsTableOf l true table → MeetsCondition table n → IsMachineInOrder n l table m

-- From contents that fit and under a vector the netlist has a valuation, and any two give each class the same bit.
abbrev pub NetSettlesOnce : AbstractNetlist → Library → List Name → Option Name → Contents → List Bool → Type 0
NetSettlesOnce k l input_names clock t i =
    (w : Valuation) × NetSettles k l input_names clock t i w
    × ((v : Valuation) → NetSettles k l input_names clock t i v → v.classes ≡ w.classes)

-- so does each netlist that has a machine
abbrev pub MachineSettlesNetlist : Type 0
MachineSettlesNetlist =
    (n : InMemory) (l : Library) (table : List ModelPins) (m : Machine) (k : AbstractNetlist) (t : Contents) (i : List Bool)
    → IsMachineOfNetlist n l table m → IsOrdered m → IsSeenAs n k → FitsContents k l t → length i ≡ length (inputs m)
    → NetSettlesOnce k l (inputs m) m.clock t i

-- From contents that fit and for every list of vectors, of every length, the netlist has exactly one list of valuations, by the bits
-- of its classes.
abbrev pub NetRunsOnce : AbstractNetlist → Library → Machine → Contents → List (List Bool) → Type 0
NetRunsOnce k l m t v =
    (ws : List (List Bool)) × NetTrace k l m t v ws × ((others : List (List Bool)) → NetTrace k l m t v others → others ≡ ws)

-- so does each netlist that has a machine
abbrev pub MachineRunsNetlist : Type 0
MachineRunsNetlist =
    (n : InMemory) (l : Library) (table : List ModelPins) (m : Machine) (k : AbstractNetlist) (t : Contents) (v : List (List Bool))
    → IsMachineOfNetlist n l table m → IsOrdered m → IsSeenAs n k → FitsContents k l t → AreVectors m v → NetRunsOnce k l m t v
