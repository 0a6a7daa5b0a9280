-- Paths through a netlist, and how long they take.
use Rattle.std.specs.Prelude.{◌≡◌, ◌⊎◌, ℕ, ◌≤◌, false, List, [], ◌∷◌, Option, None, Some}
use Rattle.std.specs.List.{sum_by}
use Rattle.vlsi_base.specs.declared.name.Name.{Name}
use Rattle.vlsi_base.specs.declared.name.Port.{Port}
use Rattle.vlsi_base.specs.declared.name.Dir.TheVariants as dir
use Rattle.vlsi_base.specs.Name.{is_supply}
use Rattle.cell_model.specs.declared.cell.Arc.{Arc}
use Rattle.cell_model.specs.Cell.{Function, flip_flop, Cell}
use Rattle.cell_model.specs.Library.{Library, cell_of}
use Rattle.cell_checks.specs.Arcs.{HasPin, BeginsThere, GoesThrough}
use Rattle.net_core.specs.Places.{IsThere}
use Rattle.net_core.specs.Netlist.{Instance, Netlist, port, pin_of, HasClass}
use Rattle.delay_sta.specs.Arcs.{arc_delay}
use Rattle.delay_sta.specs.Loads.{load}

-- An arc of an instance: the class of the input pin at which it begins, that of the output pin at which it ends, and how long it
-- takes, in femtoseconds.
pub record Step : Type 0 where
  pub from : ℕ
  pub to : ℕ
  pub delay : ℕ

-- Paths, by their steps, of which the last stands first, and the class to which each leads. A path starts in a class without a step,
-- or with a step that begins paths, and goes on with steps of which each begins in the class where the one before has ended.
pub data Leads (Starts : ℕ → Type 0) (Begins GoesOn : Step → Type 0) : ℕ → List Step → Type 0 where
  starts : {class : ℕ} → Starts class → Leads Starts Begins GoesOn class []
  begins : {s : Step} → Begins s → Leads Starts Begins GoesOn s.to (s ∷ [])
  goes_on : {s : Step} {path : List Step} → Leads Starts Begins GoesOn s.from path → GoesOn s → Leads Starts Begins GoesOn s.to (s ∷ path)

-- a path to this class takes so long: the sum of its steps
pub record TakesTo (Starts : ℕ → Type 0) (Begins GoesOn : Step → Type 0) (class time : ℕ) : Type 0 where
  pub path : List Step
  pub leads : Leads Starts Begins GoesOn class path
  pub sum : time ≡ sum_by (λ s. s.delay) path

-- An arc of a cell is a step at the instance of this name, where classes have these loads: it leads from an input pin to an output
-- pin, and what the cell is allows it.
pub record IsStepAt (n : Netlist) (loads : ℕ → ℕ) (Allows : Function → Name → Type 0) (owner : List ℕ) (c : Cell) (a : Arc) (s : Step) : Type 0 where
  pub allowed : Allows c.function a.from
  pub takes : HasPin c.pins dir.In a.from
  pub gives : HasPin c.pins dir.Out a.to
  pub from : HasClass n (pin_of owner a.from) s.from
  pub to : HasClass n (pin_of owner a.to) s.to
  pub delay : s.delay ≡ arc_delay a (loads s.to)

-- a step of the netlist: an arc of the cell of one of its instances
pub record IsStep (n : Netlist) (l : Library) (Allows : Function → Name → Type 0) (s : Step) : Type 0 where
  pub owner : Instance
  pub listed : IsThere n.instances owner
  pub cell : Cell
  pub found : cell_of l owner.model ≡ Some cell
  pub arc : Arc
  pub has : IsThere cell.arcs arc
  pub is : IsStepAt n (load n l) Allows owner.name cell arc s

-- paths start at input ports; a supply never changes, so none starts there
pub record IsStart (n : Netlist) (class : ℕ) : Type 0 where
  pub input : Port
  pub listed : IsThere n.ports input
  pub takes : input.dir ≡ dir.In
  pub signal : is_supply input.name.text ≡ false
  pub joined : HasClass n (port input.name) class

-- an output port or the data pin of a flip-flop is in the class
pub data IsEnd (n : Netlist) (l : Library) (class : ℕ) : Type 0 where
  at_port : (output : Port) → IsThere n.ports output → output.dir ≡ dir.Out → HasClass n (port output.name) class → IsEnd n l class
  at_data : (i : Instance) (c : Cell) (data_pin clock_pin : Name) → IsThere n.instances i → cell_of l i.model ≡ Some c
      → c.function ≡ flip_flop data_pin clock_pin → HasClass n (pin_of i.name data_pin) class → IsEnd n l class

-- a path of the netlist to this class takes so long
abbrev pub Arrives : Netlist → Library → ℕ → ℕ → Type 0
Arrives n l class time = TakesTo (IsStart n) (IsStep n l BeginsThere) (IsStep n l GoesThrough) class time

-- a path to an output port or a data pin takes so long
abbrev pub Ends : Netlist → Library → ℕ → Type 0
Ends n l time = (class : ℕ) × IsEnd n l class × Arrives n l class time

-- the greatest number with P; none exactly where no number has it
abbrev pub IsGreatest : (ℕ → Type 0) → Option ℕ → Type 0
IsGreatest P None = (d : ℕ) → P d → ⊥
IsGreatest P (Some d) = P d × ((e : ℕ) → P e → e ≤ d)

-- the greatest time of all paths to an output port or a data pin, and 0 where there is none
pub record IsWorst (n : Netlist) (l : Library) (time : ℕ) : Type 0 where
  pub is : Ends n l time ⊎ (time ≡ 0)
  pub most : (other : ℕ) → Ends n l other → other ≤ time
