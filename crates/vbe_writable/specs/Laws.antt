-- What is read has names that can be written again.
use Rattle.std.specs.Prelude.{◌≡◌, ◌^◌, ◌<◌, ◌≤◌, false, ℕ, List, map, length, None, Some, IfSome}
use Rattle.vlsi_base.specs.declared.name.Name.{Name}
use Rattle.vlsi_base.specs.declared.name.Port.{Port}
use Rattle.vlsi_base.specs.declared.name.Dir.TheVariants.{Out}
use Rattle.vlsi_base.specs.Member.{In}
use Rattle.vlsi_base.specs.Name.{is_supply}
use Rattle.vlsi_base.specs.Names.{vdd, vss}
use Rattle.machine_core.specs.Machine.{Machine, Register, names_of, register_names}
use Rattle.source_checks.specs.Elaboration.{port_of}
use Rattle.text_names.specs.Words.{IsIdentifier, ArePortsNamed, CanBePorts}
use Rattle.vbe_io.specs.Text.{IsVbe}
use Rattle.vbe_io.specs.Cell.{IsCellText}
use Rattle.vbe_io.specs.declared.cell_text.CellText.{CellText}
use Rattle.catal.specs.Catal.{IsCatal}
use Rattle.net_core.specs.Netlist.{AreInOrder}
use Rattle.cell_pins.specs.Pins.{with_supply}

-- The name of a machine that is read is an identifier, and an entity can declare its ports.
abbrev pub MachineIsNamed : Type 0
MachineIsNamed = (bytes : List ℕ) (m : Machine) → IsVbe bytes m → IsIdentifier m.name × ArePortsNamed m.ports

-- The names of a machine and of its ports have at most 64 bytes, and the numbers of its ports' bits 32 bits.
abbrev pub MachineIsShort : Type 0
MachineIsShort =
    (bytes : List ℕ) (m : Machine) → IsVbe bytes m
    → (length m.name ≤ 64) × ((p : Port) → In p m.ports → (length p.name.text ≤ 64) × IfSome p.name.bit (λ k. k < 2 ^ 32))

-- registers as a text declares them: like ports, all of one direction
abbrev pub register_ports : List Name → List Port
register_ports names = map (port_of Out) names

-- The registers can be declared as ports can; none of them has the text of a port; and the clock is a scalar.
pub record AreRegistersNamed (m : Machine) : Type 0 where
  pub named : ArePortsNamed (register_ports (register_names m))
  pub apart : (p : Port) (r : Register) → In p m.ports → In r m.registers → p.name.text ≡ r.name.text → ⊥
  pub clock : (name : Name) → m.clock ≡ Some name → name.bit ≡ None

-- A text can declare the registers of a machine that is read beside its ports.
abbrev pub RegistersAreNamed : Type 0
RegistersAreNamed = (bytes : List ℕ) (m : Machine) → IsVbe bytes m → AreRegistersNamed m

-- An entity can declare the pins of a cell that is read, with and without a machine.
abbrev pub CellIsNamed : Type 0
CellIsNamed = (bytes : List ℕ) (cell : CellText) → IsCellText bytes cell → ArePortsNamed cell.ports

-- no port has the text of a supply
abbrev pub NoneIsSupply : List Port → Type 0
NoneIsSupply ports = (p : Port) → In p ports → is_supply p.name.text ≡ false

-- the ports, with the two supplies put in
abbrev pub with_supplies : List Port → List Port
with_supplies ports = with_supply vss (with_supply vdd ports)

-- With the supplies, an entity can still declare the ports.
abbrev pub PinsAreNamed : Type 0
PinsAreNamed = (ports : List Port) → ArePortsNamed ports → NoneIsSupply ports → ArePortsNamed (with_supplies ports)

-- The names of the cells that a CATAL uses are identifiers.
abbrev pub CatalIsNamed : Type 0
CatalIsNamed = (bytes : List ℕ) (names : List (List ℕ)) → IsCatal bytes names → (name : List ℕ) → In name names → IsIdentifier name

-- And they have at most 64 bytes.
abbrev pub CatalIsShort : Type 0
CatalIsShort = (bytes : List ℕ) (names : List (List ℕ)) → IsCatal bytes names → (name : List ℕ) → In name names → length name ≤ 64

-- Ports that an entity can declare can be those of a text in the order of names, where there are some.
abbrev pub InOrderCanBeWritten : Type 0
InOrderCanBeWritten = (ports : List Port) → ArePortsNamed ports → AreInOrder (names_of ports) → 0 < length ports → CanBePorts ports

-- With the supplies, the ports of a machine that is read can be those of a text.
abbrev pub MachineCanBeWritten : Type 0
MachineCanBeWritten = (bytes : List ℕ) (m : Machine) → IsVbe bytes m → CanBePorts (with_supplies m.ports)

-- With the supplies, the pins of a cell that is read can be the ports of a text.
abbrev pub CellCanBeWritten : Type 0
CellCanBeWritten = (bytes : List ℕ) (cell : CellText) → IsCellText bytes cell → CanBePorts (with_supplies cell.ports)
