-- The registers of a netlist, by their places and classes.
use Rattle.std.specs.Prelude.{◌≡◌, ℕ, ◌+◌, false, List, [], ◌∷◌, ◌++◌, slice_index_or, if◌then◌else◌}
use Rattle.vlsi_base.specs.declared.name.Name.{Name}
use Rattle.vlsi_base.specs.Member.{In}
use Rattle.cell_model.specs.Function.{Function, flip_flop}
use Rattle.cell_model.specs.Cell.{Cell, cell_outputs}
use Rattle.cell_model.specs.Library.{Library}
use Rattle.cell_pins.specs.Table.{IsTableOf}
use Rattle.net_core.specs.declared.frame.Node.{Node}
use Rattle.net_core.specs.declared.pins.ModelPins.{ModelPins}
use Rattle.net_core.specs.Places.{Stands}
use Rattle.net_core.specs.Frame.{instance_of}
use Rattle.net_core.specs.Netlist.{Netlist, pin_of, terminals}
use Rattle.net_right.specs.Condition.{MeetsCondition}
use Rattle.scan_theory.specs.Path.{is_register}
use Rattle.scan_theory.specs.Scan.{Stage, IsStage, loads, gives}
use Rattle.scan_checks.specs.declared.registers.Register.{Register}

-- the netlist meets what the stages ask, with a library's usable cells
pub record IsScannable (l : Library) (n : Netlist) : Type 0 where
  pub table : List ModelPins
  pub listed : IsTableOf l false table
  pub met : MeetsCondition table n

-- the data pin of a flip-flop
abbrev pub IsDataPin : Function → Name → Type 0
IsDataPin f pin = (clock : Name) × (f ≡ flip_flop pin clock)

-- the pin's place among the terminals, of which the instance's pins begin at its first
abbrev pub IsPinAt : Node → Name → ℕ → Type 0
IsPinAt node pin place = (k : ℕ) × Stands node.pins k pin × (place ≡ node.first + k)

-- the places of the data pin and of the output pin of an instance of a flip-flop, and their classes, where it has these pins
pub record IsRegisterBy (c : Cell) (node : Node) (classes : List ℕ) (r : Register) : Type 0 where
  pub name : r.name ≡ node.name
  pub load : Name
  pub is_load : IsDataPin c.function load
  pub output : Name
  pub only : cell_outputs c ≡ output ∷ []
  pub place : In load node.pins → IsPinAt node load r.place
  pub loads : r.loads ≡ slice_index_or classes r.place 0
  pub gives : In output node.pins → (place : ℕ) × IsPinAt node output place × (r.gives ≡ slice_index_or classes place 0)

-- the register instance of this name: the place of its data pin, and the classes that it loads and gives
pub record IsRegisterOf (n : Netlist) (l : Library) (name : List ℕ) (r : Register) : Type 0 where
  pub named : r.name ≡ name
  pub stage : Stage
  pub is : IsStage n l name stage
  pub place : Stands (terminals n) r.place (pin_of stage.name stage.load)
  pub loads : r.loads ≡ loads n stage
  pub gives : r.gives ≡ gives n stage

-- those of these names, in their order
pub data AreRegisters (n : Netlist) (l : Library) : List (List ℕ) → List Register → Type 0 where
  none : AreRegisters n l [] []
  more : {name : List ℕ} {r : Register} {names : List (List ℕ)} {rs : List Register}
      → IsRegisterOf n l name r → AreRegisters n l names rs → AreRegisters n l (name ∷ names) (r ∷ rs)

-- an instance of a netlist, with its pins behind those of the instances before it
pub record IsNodeOf (n : Netlist) (node : Node) : Type 0 where
  pub place : ℕ
  pub stands : Stands n.instances place (instance_of n.models node)
  pub pins : (k : ℕ) (pin : Name) → Stands node.pins k pin → Stands (terminals n) (node.first + k) (pin_of node.name pin)

-- the register that an instance is, if it is one, is put behind the others
abbrev pub PushesRegister : Netlist → Library → Node → List Register → List Register → Type 0
PushesRegister n l node old new =
    (more : List Register) × (new ≡ old ++ more)
    × AreRegisters n l (if is_register l (instance_of n.models node) then node.name ∷ [] else []) more
