-- What timing asks of a netlist, and what it finds.
use Rattle.std.specs.Prelude.{◌≡◌, ◌↔◌, ℕ, ◌^◌, ◌<◌, Bool, false, List, length, None, Some, slice_index, slice_index_or}
use Rattle.std.specs.List.{All}
use Rattle.cell_model.specs.Cell.{Cell}
use Rattle.cell_model.specs.Library.{Library, cell_of, IsUsable}
use Rattle.cell_checks.specs.Arcs.{BeginsThere, GoesThrough}
use Rattle.cell_pins.specs.Table.{IsTableOf}
use Rattle.net_core.specs.declared.pins.ModelPins.{ModelPins}
use Rattle.net_core.specs.Places.{Stands, IsThere, NoneTwice}
use Rattle.net_core.specs.Netlist.{Instance, Netlist}
use Rattle.net_core.specs.Checks.{Fits, Passes}
use Rattle.delay_sta.specs.declared.arrivals.Delays.{Delays}
use Rattle.delay_sta.specs.Loads.{capacitances, load}
use Rattle.delay_sta.specs.Graph.{AreFound, AreStartsOf, AreArcsOf, AreReached}
use Rattle.delay_sta.specs.Paths.{Step, IsStep, Arrives, IsEnd, IsGreatest}

-- The netlist has passed its checks with the pins of the library's cells, all listed or the usable ones alone, and each of its models
-- is a usable cell.
pub record CanBeTimed (l : Library) (n : Netlist) : Type 0 where
  pub all : Bool
  pub table : List ModelPins
  pub listed : IsTableOf l all table
  pub fits : Fits n table
  pub passes : Passes table n
  pub usable : (i : Instance) → IsThere n.instances i → (c : Cell) × (cell_of l i.model ≡ Some c) × IsUsable c

-- a step of the netlist, whether paths begin with it or go on with it
pub data IsAnyStep (n : Netlist) (l : Library) (s : Step) : Type 0 where
  a_beginning : IsStep n l BeginsThere s → IsAnyStep n l s
  going_on : IsStep n l GoesThrough s → IsAnyStep n l s

-- The classes in an order: each stands once, and behind a class to which steps lead stand those to which paths go on from there.
pub record IsPathOrder (n : Netlist) (l : Library) (order : List ℕ) : Type 0 where
  pub inside : (class : ℕ) → IsThere order class → class < n.count
  pub once : NoneTwice order
  pub complete : (class : ℕ) → class < n.count → IsThere order class
  pub behind : (s t : Step) (i j : ℕ) → IsStep n l GoesThrough s → IsAnyStep n l t → s.from ≡ t.to → Stands order i s.to → Stands order j t.to → j < i

-- The greatest arrival and the load of each class, the classes at which paths end, and an order of the classes. Beside them stands what
-- an exchange of a cell needs: no capacitance is so great that loads might not fit 64 bits, the classes where paths start, all arcs,
-- where they lead from each class, and the cells of models; no arrival is stale.
pub record AreDelaysOf (n : Netlist) (l : Library) (d : Delays) : Type 0 where
  pub counted : (length d.arrivals.items ≡ n.count) × (length d.loads.items ≡ n.count)
  pub arrivals : (class : ℕ) → class < n.count → IsGreatest (Arrives n l class) (slice_index_or d.arrivals.items class None)
  pub loads : (class : ℕ) → class < n.count → slice_index d.loads.items class ≡ load n l class
  pub short : All (λ c. c < 2 ^ 32) (capacitances n l)
  pub ends : (class : ℕ) → IsThere d.ends.items class ↔ IsEnd n l class
  pub order : IsPathOrder n l d.order.items
  pub starts : AreStartsOf n d.starts.items
  pub arcs : AreArcsOf n l d.arcs.items
  pub reached : AreReached d.arcs.items d.reached.items
  pub places : AreFound l.cells n.models d.places.items
  pub fresh : (class : ℕ) → slice_index_or d.stale.items class false ≡ false
  pub kept : (length d.stale.items ≡ n.count) × (length d.marks.items ≡ n.count)
