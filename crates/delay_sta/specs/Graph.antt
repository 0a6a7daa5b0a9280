-- The timing graph: the steps of a netlist by the classes to which they lead.
use Rattle.std.specs.Prelude.{◌≡◌, ◌⊎◌, ◌↔◌, ℕ, ◌<◌, ◌≤◌, ◌+◌, ◌^◌, Bool, true, false, List, [], map, length, Option, None, Some, slice_get, slice_index, slice_index_or, if◌then◌else◌}
use Rattle.std.specs.Global.{Vec}
use Rattle.std.specs.Bool.{MatchBool}
use Rattle.cell_model.specs.declared.cell.Arc.{Arc}
use Rattle.cell_model.specs.Cell.{Function, gate, flip_flop, other, opaque, Cell}
use Rattle.vlsi_base.specs.declared.name.Name.{Name}
use Rattle.vlsi_base.specs.declared.name.Port.{Port}
use Rattle.vlsi_base.specs.declared.name.Dir.TheVariants as dir
use Rattle.vlsi_base.specs.Name.{is_supply}
use Rattle.cell_model.specs.Library.{Library, cell_named, cell_of}
use Rattle.cell_checks.specs.Arcs.{BeginsThere, GoesThrough}
use Rattle.net_core.specs.Places.{Stands, IsThere, NoneTwice}
use Rattle.net_core.specs.Netlist.{Instance, Netlist, pin_of, HasClass}
use Rattle.delay_sta.specs.declared.graph.TimedArc.{TimedArc}
use Rattle.delay_sta.specs.Loads.{load}
use Rattle.delay_sta.specs.Paths.{Step, IsStepAt, IsStart, TakesTo, IsGreatest}

-- the place of the cell of each model
pub record AreFound (cells : List Cell) (models : List (List ℕ)) (places : List ℕ) : Type 0 where
  pub many : length places ≡ length models
  pub each : (k : ℕ) → k < length models → slice_get cells (slice_index places k) ≡ cell_named cells (slice_index_or models k [])

abbrev pub step_of : TimedArc → Step
step_of x = record { from = x.from; to = x.to; delay = x.delay }

-- whether paths begin with an arc from this pin of a cell, or go on with it; none where they do neither
abbrev pub IsWay : Function → Name → Option Bool → Type 0
IsWay f pin None = (BeginsThere f pin → ⊥) × (GoesThrough f pin → ⊥)
IsWay f pin (Some begins) = MatchBool begins (BeginsThere f pin) (GoesThrough f pin)

-- an arc of a cell is such a step at the instance of this name, where classes have these loads
abbrev pub IsTimedAt : Netlist → (ℕ → ℕ) → List ℕ → Cell → Arc → TimedArc → Type 0
IsTimedAt n loads owner c a x =
    MatchBool x.begins (IsStepAt n loads BeginsThere owner c a (step_of x)) (IsStepAt n loads GoesThrough owner c a (step_of x))

-- an arc of this cell is such a step at the instance with this number, from and to the pins at its places among the instance's
pub record IsTimedOf (n : Netlist) (loads : ℕ → ℕ) (number : ℕ) (c : Cell) (a : Arc) (x : TimedArc) : Type 0 where
  pub numbered : x.owner ≡ number
  pub owner : Instance
  pub stands : Stands n.instances number owner
  pub input : Stands owner.pins x.input a.from
  pub output : Stands owner.pins x.output a.to
  pub is : IsTimedAt n loads owner.name c a x

-- what is found of an arc: exactly such a step
abbrev pub IsFoundAs : Netlist → (ℕ → ℕ) → ℕ → Cell → Arc → Option TimedArc → Type 0
IsFoundAs n loads number c a found = (x : TimedArc) → (found ≡ Some x) ↔ IsTimedOf n loads number c a x

-- so is an arc of the cell
pub record IsTimedIn (n : Netlist) (loads : ℕ → ℕ) (number : ℕ) (c : Cell) (x : TimedArc) : Type 0 where
  pub arc : Arc
  pub has : IsThere c.arcs arc
  pub is : IsTimedOf n loads number c arc x

-- an arc of the instance with its number, from and to the pins at its places among the instance's
pub record IsOwned (n : Netlist) (l : Library) (x : TimedArc) : Type 0 where
  pub owner : Instance
  pub stands : Stands n.instances x.owner owner
  pub cell : Cell
  pub found : cell_of l owner.model ≡ Some cell
  pub arc : Arc
  pub has : IsThere cell.arcs arc
  pub input : Stands owner.pins x.input arc.from
  pub output : Stands owner.pins x.output arc.to
  pub is : IsTimedAt n (load n l) owner.name cell arc x

-- so much less than 2 ^ 128 that fewer than 2 ^ 32 of them can be added
abbrev pub IsShort : TimedArc → Type 0
IsShort x = x.delay < 2 ^ 96

-- the arcs of an instance were put behind the others
pub record AddsArcs (n : Netlist) (loads : ℕ → ℕ) (number : ℕ) (c : Cell) (old new : List TimedArc) : Type 0 where
  pub kept : (x : TimedArc) → IsThere old x → IsThere new x
  pub sound : (x : TimedArc) → IsThere new x → IsThere old x ⊎ (IsTimedIn n loads number c x × IsShort x)
  pub complete : (x : TimedArc) → IsTimedIn n loads number c x → IsThere new x

-- all steps of a netlist, each with its instance, and no others
pub record AreTimedArcs (n : Netlist) (l : Library) (arcs : List TimedArc) : Type 0 where
  pub each : (x : TimedArc) → IsThere arcs x ↔ IsOwned n l x
  pub short : (x : TimedArc) → IsThere arcs x → IsShort x

-- the arcs to a class
abbrev pub group_of : List (Vec TimedArc) → ℕ → List TimedArc
group_of groups class = slice_index_or (map (λ g. g.items) groups) class []

-- arcs by the class to which they lead
abbrev pub AreGrouped : List TimedArc → List (Vec TimedArc) → Type 0
AreGrouped arcs groups = (x : TimedArc) (class : ℕ) → class < length groups → IsThere (group_of groups class) x ↔ (IsThere arcs x × (x.to ≡ class))

-- all steps of a netlist by the class to which they lead, each with its instance
pub record AreArcsOf (n : Netlist) (l : Library) (arcs : List (Vec TimedArc)) : Type 0 where
  pub many : length arcs ≡ n.count
  pub owned : (class : ℕ) (x : TimedArc) → IsThere (group_of arcs class) x → IsOwned n l x × (x.to ≡ class) × IsShort x
  pub complete : (x : TimedArc) → IsOwned n l x → IsThere (group_of arcs x.to) x

-- the numbers of a class
abbrev pub numbers_of : List (Vec ℕ) → ℕ → List ℕ
numbers_of lists class = slice_index_or (map (λ v. v.items) lists) class []

-- an arc with which paths go on from one class to another
abbrev pub IsOnward : List TimedArc → ℕ → ℕ → Type 0
IsOnward arcs from to = (x : TimedArc) × IsThere arcs x × (x.begins ≡ false) × (x.from ≡ from) × (x.to ≡ to)

-- at each class are listed those to which paths go on from there with one of these arcs
abbrev pub AreOnward : List TimedArc → List (Vec ℕ) → Type 0
AreOnward arcs reached = (from to : ℕ) → IsThere (numbers_of reached from) to ↔ IsOnward arcs from to

-- at each class are listed those to which paths go on from there, so none to which an arc leads that begins paths
pub record AreReached (arcs : List (Vec TimedArc)) (reached : List (Vec ℕ)) : Type 0 where
  pub many : length reached ≡ length arcs
  pub only : (from to : ℕ) → IsThere (numbers_of reached from) to
      → (x : TimedArc) × IsThere (group_of arcs to) x × (x.begins ≡ false) × (x.from ≡ from)
  pub each : (class : ℕ) (x : TimedArc) → IsThere (group_of arcs class) x → x.begins ≡ false → IsThere (numbers_of reached x.from) class

-- an arc of the graph, with which paths begin or go on
pub record IsIn (groups : List (Vec TimedArc)) (begins : Bool) (s : Step) : Type 0 where
  pub arc : TimedArc
  pub listed : IsThere (group_of groups arc.to) arc
  pub way : arc.begins ≡ begins
  pub is : step_of arc ≡ s

-- Classes in an order in which each stands once, behind a class to which arcs lead those to which paths go on from there; arcs lead
-- between these classes.
pub record IsGraph (groups : List (Vec TimedArc)) (order : List ℕ) (count : ℕ) : Type 0 where
  pub many : length groups ≡ count
  pub to : (class : ℕ) (x : TimedArc) → IsThere (group_of groups class) x → x.to ≡ class
  pub from : (class : ℕ) (x : TimedArc) → IsThere (group_of groups class) x → x.from < count
  pub short : (class : ℕ) (x : TimedArc) → IsThere (group_of groups class) x → IsShort x
  pub inside : (class : ℕ) → IsThere order class → class < count
  pub once : NoneTwice order
  pub complete : (class : ℕ) → class < count → IsThere order class
  pub behind : (x y : TimedArc) (c d i j : ℕ) → IsThere (group_of groups c) x → IsThere (group_of groups d) y → x.begins ≡ false
      → x.from ≡ d → Stands order i c → Stands order j d → j < i
  pub few : length order < 2 ^ 32

-- how late an arc arrives, where the classes do so
abbrev pub later_by : ℕ → Option ℕ → Option ℕ
later_by delay None = None
later_by delay (Some time) = Some (time + delay)

abbrev pub arrival_by : List (Option ℕ) → TimedArc → Option ℕ
arrival_by arrivals x = if x.begins then Some x.delay else later_by x.delay (slice_index_or arrivals x.from None)

-- not later; what never arrives isn't later than anything
abbrev pub IsBy : Option ℕ → Option ℕ → Type 0
IsBy None latest = Unit {0}
IsBy (Some time) latest = (t : ℕ) × (latest ≡ Some t) × (time ≤ t)

-- the latest of a time and the arrivals of arcs
pub record IsLatest (initial : Option ℕ) (arrivals : List (Option ℕ)) (arcs : List TimedArc) (latest : Option ℕ) : Type 0 where
  pub is : (latest ≡ initial) ⊎ ((x : TimedArc) × IsThere arcs x × (latest ≡ arrival_by arrivals x))
  pub start : IsBy initial latest
  pub each : (x : TimedArc) → IsThere arcs x → IsBy (arrival_by arrivals x) latest

-- a class arrives when the latest of its start and its arcs does
abbrev pub IsInTime : List (Vec TimedArc) → List (Option ℕ) → List (Option ℕ) → ℕ → Type 0
IsInTime arcs starts arrivals class =
    IsLatest (slice_index_or starts class None) arrivals (group_of arcs class) (slice_index_or arrivals class None)

-- so does each class that isn't stale
abbrev pub AreInTime : List (Vec TimedArc) → List (Option ℕ) → List (Option ℕ) → List Bool → Type 0
AreInTime arcs starts arrivals stale =
    (class : ℕ) → class < length arcs → slice_index_or stale class false ≡ false → IsInTime arcs starts arrivals class

-- a class to which no arc leads arrives when it starts
abbrev pub AreSources : List (Vec TimedArc) → List (Option ℕ) → List (Option ℕ) → Type 0
AreSources arcs starts arrivals =
    (class : ℕ) → class < length arcs → group_of arcs class ≡ [] → slice_index_or arrivals class None ≡ slice_index_or starts class None

-- where paths start, there they arrive at 0
abbrev pub StartsIn : List (Option ℕ) → ℕ → Type 0
StartsIn arrivals class = slice_index_or arrivals class None ≡ Some 0

-- each class arrives at 0 or never
abbrev pub AreStarts : List (Option ℕ) → Type 0
AreStarts arrivals = (class time : ℕ) → slice_index_or arrivals class None ≡ Some time → time ≡ 0

-- the greatest arrival of each class of a graph
abbrev pub AreSettled : List (Vec TimedArc) → List (Option ℕ) → List (Option ℕ) → Type 0
AreSettled groups old new =
    (class : ℕ) → class < length old
    → IsGreatest (TakesTo (StartsIn old) (IsIn groups true) (IsIn groups false) class) (slice_index_or new class None)

-- each class arrives at 0 exactly where a path of the netlist starts there, and else never
pub record AreStartsOf (n : Netlist) (arrivals : List (Option ℕ)) : Type 0 where
  pub many : length arrivals ≡ n.count
  pub zero : AreStarts arrivals
  pub each : (class : ℕ) → StartsIn arrivals class ↔ IsStart n class

-- paths start at a port: an input that is no supply
abbrev pub IsStartPort : Port → Type 0
IsStartPort p = (p.dir ≡ dir.In) × (is_supply p.name.text ≡ false)

abbrev pub data_pin : Function → Option Name
data_pin (gate e) = None
data_pin (flip_flop data_name clock_name) = Some data_name
data_pin (other machine) = None
data_pin opaque = None

-- the data pin of the cell, at the instance of this name, is in the class
pub record IsDataClass (n : Netlist) (owner : List ℕ) (c : Cell) (class : ℕ) : Type 0 where
  pub pin : Name
  pub is : data_pin c.function ≡ Some pin
  pub joined : HasClass n (pin_of owner pin) class

-- an output port with its class stands at a place before this one
pub record IsOutputBefore (ports : List Port) (classes : List ℕ) (end class : ℕ) : Type 0 where
  pub place : ℕ
  pub before : place < end
  pub output : Port
  pub stands : Stands ports place output
  pub gives : output.dir ≡ dir.Out
  pub joined : Stands classes place class
