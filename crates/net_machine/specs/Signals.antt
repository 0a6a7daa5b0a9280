-- What of a netlist of cells a machine shows: its signal ports and its clock; and where it has none, since a cell is opaque.
use Rattle.std.specs.Prelude.{◌≡◌, ℕ, ◌<◌, IsTrue, true, not, List, filter, Option, None, Some}
use Rattle.vlsi_base.specs.declared.name.Name.{Name}
use Rattle.vlsi_base.specs.declared.name.Port.{Port}
use Rattle.vlsi_base.specs.declared.name.Dir.TheVariants as dir
use Rattle.vlsi_base.specs.Name.{is_supply}
use Rattle.machine_core.specs.Machine.{is_input, is_clock, names_of}
use Rattle.net_core.specs.declared.pins.ModelPin.{ModelPin}
use Rattle.net_core.specs.declared.pins.ModelPins.{ModelPins}
use Rattle.net_core.specs.Places.{Stands, IsThere}
use Rattle.net_core.specs.Netlist.{Instance, Netlist as InMemory, port, pin_of, HasClass}
use Rattle.net_core.specs.Checks.{pins_named}
use Rattle.cell_model.specs.Cell.{opaque, Cell}
use Rattle.cell_model.specs.Library.{Library, cell_of}
use Rattle.cell_pins.specs.Table.{IsTableOf}
use Rattle.net_right.specs.Condition.{MeetsCondition}

-- the ports but vdd and vss, in their order
abbrev pub signal_ports : List Port → List Port
signal_ports ports = filter (λ p. not (is_supply p.name.text)) ports

-- the inputs but supplies and clock: what a vector has a bit for
abbrev pub net_inputs : InMemory → Option Name → List Name
net_inputs n clock = filter (λ name. not (is_clock clock name)) (names_of (filter (λ p. is_input p.dir) (signal_ports n.ports)))

-- a clock pin of an instance stands in the class
pub record HasClockPin (table : List ModelPins) (n : InMemory) (class : ℕ) : Type 0 where
  pub owner : Instance
  pub pin : ModelPin
  pub listed : IsThere n.instances owner
  pub known : IsThere (pins_named table owner.model) pin
  pub takes : pin.dir ≡ dir.In
  pub clocks : IsTrue pin.is_clock
  pub joined : HasClass n (pin_of owner.name pin.name) class

-- the netlist's clock: the port in whose class clock pins stand; none where there are no clock pins
abbrev pub IsClockPort : List ModelPins → InMemory → Option Name → Type 0
IsClockPort table n None = (class : ℕ) → HasClockPin table n class → ⊥
IsClockPort table n (Some name) = (class : ℕ) × HasClass n (port name) class × HasClockPin table n class

-- with the table of pins of all of the library's cells the netlist meets what each stage asks
abbrev pub MeetsConditionWith : Library → InMemory → Type 0
MeetsConditionWith l n = (table : List ModelPins) × IsTableOf l true table × MeetsCondition table n

-- nothing is known of the library's cell of this name
pub record IsOpaque (l : Library) (model : List ℕ) : Type 0 where
  pub cell : Cell
  pub found : cell_of l model ≡ Some cell
  pub unknown : cell.function ≡ opaque

-- no instance's cell is opaque
abbrev pub HasBehaviour : InMemory → Library → Type 0
HasBehaviour n l = (i : Instance) → IsThere n.instances i → IsOpaque l i.model → ⊥

-- the model of the first instance, in the order of instances, whose cell is opaque
pub record IsFirstOpaque (n : InMemory) (l : Library) (model : List ℕ) : Type 0 where
  pub place : ℕ
  pub owner : Instance
  pub stands : Stands n.instances place owner
  pub is : owner.model ≡ model
  pub unknown : IsOpaque l model
  pub first : (k : ℕ) (other : Instance) → k < place → Stands n.instances k other → IsOpaque l other.model → ⊥
