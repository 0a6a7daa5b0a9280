-- A netlist of gates and plain flip-flops as a machine whose registers are its flip-flops, by their names.
use Rattle.std.specs.Prelude.{◌≡◌, ◌↔◌, ℕ, ◌<◌, Bool, true, List, map, None, Some}
use Rattle.std.specs.List.{All}
use Rattle.vlsi_base.specs.declared.name.Name.{Name}
use Rattle.vlsi_base.specs.declared.name.Port.{Port}
use Rattle.vlsi_base.specs.Member.{In}
use Rattle.bool_expr.specs.Expression.{bit}
use Rattle.machine_core.specs.Machine.{Machine, register_names}
use Rattle.cell_model.specs.Cell.{Cell}
use Rattle.cell_model.specs.Library.{Library, cell_of}
use Rattle.cell_pins.specs.Table.{IsTableOf}
use Rattle.net_core.specs.declared.pins.ModelPins.{ModelPins}
use Rattle.net_core.specs.Places.{Stands, IsThere}
use Rattle.net_core.specs.Netlist.{Instance, Netlist as InMemory, IsNetlist}
use Rattle.net_meaning.specs.Netlist.{AbstractNetlist}
use Rattle.net_meaning.specs.Behaviour.{Contents}
use Rattle.net_right.specs.Condition.{MeetsCondition}
use Rattle.net_right.specs.View.{IsSeenAs}
use Rattle.net_right.specs.Writable.{CanBeNamed}
use Rattle.text_names.specs.Words.{IsIdentifier}
use Rattle.vbe_print.specs.Writable.{AreDeclared, CanBeVbe}
use Rattle.net_machine.specs.Signals.{signal_ports}
use Rattle.net_machine.specs.Step.{KeepsStep, FitsContents, IsMachineOfNetlist}
use Rattle.net_flat.specs.declared.parts.Part.TheVariants as part
use Rattle.net_flat.specs.Parts.{part_of, registers_of}

-- the library's cell of this name is neither a gate nor a plain flip-flop
pub record IsOther (l : Library) (model : List ℕ) : Type 0 where
  pub cell : Cell
  pub found : cell_of l model ≡ Some cell
  pub is : part_of cell.function ≡ part.Other

-- each instance's cell is one of these
abbrev pub IsPlain : InMemory → Library → Type 0
IsPlain n l = (i : Instance) → IsThere n.instances i → IsOther l i.model → ⊥

-- the model of the first instance, in the order of instances, whose cell is neither
pub record IsFirstOther (n : InMemory) (l : Library) (model : List ℕ) : Type 0 where
  pub place : ℕ
  pub owner : Instance
  pub stands : Stands n.instances place owner
  pub is : owner.model ≡ model
  pub other : IsOther l model
  pub first : (k : ℕ) (before : Instance) → k < place → Stands n.instances k before → IsOther l before.model → ⊥

-- a port has this text
pub record HasText (ports : List Port) (text : List ℕ) : Type 0 where
  pub port : Port
  pub listed : IsThere ports port
  pub is : port.name.text ≡ text

-- no register has the text of a port
abbrev pub AreApart : InMemory → Library → Type 0
AreApart n l = (name : Name) → In name (registers_of l n.instances) → HasText n.ports name.text → ⊥

-- the first register, in the order of instances, whose name is the text of a port
pub record IsFirstTwice (n : InMemory) (l : Library) (text : List ℕ) : Type 0 where
  pub place : ℕ
  pub name : Name
  pub stands : Stands (registers_of l n.instances) place name
  pub is : name.text ≡ text
  pub twice : HasText n.ports text
  pub first : (k : ℕ) (before : Name) → k < place → Stands (registers_of l n.instances) k before → HasText n.ports before.text → ⊥

-- what the registers hold: each what the instance of its name holds
abbrev pub held_by_name : Machine → Contents → List Bool
held_by_name m t = map (λ r. bit (t r.name.text) 0) m.registers

-- The machine is the netlist's: it keeps step with it from whatever contents, its registers have the names of the flip-flops, and each
-- holds the bit of the instance of its name.
pub record IsFlat (n : InMemory) (l : Library) (table : List ModelPins) (m : Machine) : Type 0 where
  pub of_netlist : IsMachineOfNetlist n l table m
  pub registers : (name : Name) → In name (register_names m) ↔ In name (registers_of l n.instances)
  pub fits : (k : AbstractNetlist) → IsSeenAs n k → (t : Contents) → FitsContents k l t
  pub holds : (k : AbstractNetlist) (seen : IsSeenAs n k) (t : Contents) → KeepsStep.held (of_netlist.step k seen) t ≡ held_by_name m t

-- it is that with the table of pins of all of the library's cells, where the netlist meets what each stage asks
abbrev pub IsFlatWith : InMemory → Library → Machine → Type 0
IsFlatWith n l m = (table : List ModelPins) → IsTableOf l true table → MeetsCondition table n → IsFlat n l table m

-- the clock, where there is one, is no bit of a vector
abbrev pub HasScalarClock : Machine → Type 0
HasScalarClock m = (name : Name) → m.clock ≡ Some name → name.bit ≡ None

-- what a data-flow text needs of a netlist's names: those of the netlist and of its instances are identifiers, and its ports but the
-- supplies can be declared
pub record HasWords (n : InMemory) : Type 0 where
  pub name : IsIdentifier n.name
  pub ports : AreDeclared (signal_ports n.ports)
  pub instances : All (λ i. IsIdentifier i.name) n.instances

-- then the machine's names can be written, unless its clock is a bit of a vector
abbrev pub CanBeText : InMemory → Machine → Type 0
CanBeText n m = HasWords n → HasScalarClock m → CanBeVbe m

-- so it is with a netlist whose names a structural text can have
abbrev pub NamedHasWords : Type 0
NamedHasWords = (n : InMemory) → IsNetlist n → CanBeNamed n → HasWords n
