-- What an exchange of an instance's cell does to loads and arcs.
use Rattle.std.specs.Prelude.{◌≡◌, ℕ, ◌^◌, ◌<◌, ◌++◌, List, map, length, Some, slice_index, take}
use Rattle.std.specs.List.{All, zip, sum_by}
use Rattle.vlsi_base.specs.declared.name.Name.{Name}
use Rattle.cell_model.specs.declared.cell.Arc.{Arc}
use Rattle.cell_model.specs.declared.cell.Pin.{Pin}
use Rattle.cell_model.specs.Cell.{Cell}
use Rattle.cell_model.specs.Library.{Library, cell_of}
use Rattle.net_core.specs.Places.{Stands, IsThere}
use Rattle.net_core.specs.Netlist.{Instance, Netlist, terminals_of}
use Rattle.delay_sta.specs.declared.graph.TimedArc.{TimedArc}
use Rattle.delay_sta.specs.Arcs.{arc_delay}
use Rattle.delay_sta.specs.Loads.{input_capacitance, capacitances, share, load}
use Rattle.delay_sta.specs.Graph.{IsShort}

-- what pins with these names and classes add to the load of a class, where a cell has these pins
abbrev pub pin_load : List Pin → List Name → List ℕ → ℕ → ℕ
pin_load pins names classes class = sum_by (share class) (zip (map (input_capacitance pins) names) classes)

-- the classes of an instance's pins, in their order among those of all terminals
pub record ArePinClasses (n : Netlist) (number : ℕ) (classes : List ℕ) : Type 0 where
  pub owner : Instance
  pub stands : Stands n.instances number owner
  pub many : length classes ≡ length owner.pins
  pub front : List ℕ
  pub back : List ℕ
  pub whole : n.classes ≡ front ++ (classes ++ back)
  pub before : length front ≡ length (terminals_of n.ports (take number n.instances))

-- the load of each class, from capacitances that fit 32 bits
pub record AreLoads (n : Netlist) (l : Library) (loads : List ℕ) : Type 0 where
  pub many : length loads ≡ n.count
  pub each : (class : ℕ) → class < n.count → slice_index loads class ≡ load n l class
  pub short : All (λ c. c < 2 ^ 32) (capacitances n l)

-- the only arc of a cell from one pin to another
pub record IsOnlyArc (arcs : List Arc) (from to : Name) (a : Arc) : Type 0 where
  pub has : IsThere arcs a
  pub leaves : a.from ≡ from
  pub enters : a.to ≡ to
  pub once : (b : Arc) → IsThere arcs b → b.from ≡ from → b.to ≡ to → b ≡ a

-- an arc of the instance with its number, the only one between the pins at its places among the instance's
pub record IsPlaced (n : Netlist) (l : Library) (x : TimedArc) : Type 0 where
  pub owner : Instance
  pub stands : Stands n.instances x.owner owner
  pub cell : Cell
  pub found : cell_of l owner.model ≡ Some cell
  pub input : Name
  pub output : Name
  pub begins_at : Stands owner.pins x.input input
  pub ends_at : Stands owner.pins x.output output
  pub arc : Arc
  pub only : IsOnlyArc cell.arcs input output arc

-- the arc takes so long as the arc of its instance's cell does with this load, and is else as it was
pub record IsRetimed (n : Netlist) (l : Library) (load : ℕ) (old new : TimedArc) : Type 0 where
  pub same : new ≡ record old { delay = new.delay }
  pub short : IsShort new
  pub time : (p : IsPlaced n l old) → new.delay ≡ arc_delay p.arc load

-- so do all these arcs, in their order
pub record AreRetimed (n : Netlist) (l : Library) (load : ℕ) (old new : List TimedArc) : Type 0 where
  pub many : length new ≡ length old
  pub each : (k : ℕ) (x y : TimedArc) → Stands old k x → Stands new k y → IsRetimed n l load x y
