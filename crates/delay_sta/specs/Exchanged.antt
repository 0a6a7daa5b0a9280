-- Cells put in the place of others, and the classes of a longest path.
use Rattle.std.specs.Prelude.{◌≡◌, ◌⊎◌, ◌↔◌, ℕ, Bool, true, false, List, Some, slice_index_or}
use Rattle.vlsi_base.specs.declared.name.Name.{Name}
use Rattle.cell_model.specs.Cell.{Function, Cell, pin_ports}
use Rattle.cell_model.specs.Library.{Library, cell_of, IsUsable}
use Rattle.cell_checks.specs.Arcs.{BeginsThere, GoesThrough}
use Rattle.net_core.specs.Places.{Stands, IsThere}
use Rattle.net_core.specs.Netlist.{Instance, Netlist, SetsModel}
use Rattle.delay_sta.specs.Paths.{IsStart, IsStep, IsEnd, IsWorst, TakesTo, Step}
use Rattle.delay_sta.specs.Graph.{data_pin}

-- paths begin at the same pins, go on from the same pins, and end at the same data pins
pub record AreAlike (f g : Function) : Type 0 where
  pub begins : (pin : Name) → BeginsThere f pin ↔ BeginsThere g pin
  pub through : (pin : Name) → GoesThrough f pin ↔ GoesThrough g pin
  pub data_pins : data_pin f ≡ data_pin g

-- At this place of the library stands a usable cell with the pins of the instance's, directions among them, and alike to paths; its
-- name is among the models.
pub record IsExchangeAt (l : Library) (n : Netlist) (number place : ℕ) : Type 0 where
  pub owner : Instance
  pub stands : Stands n.instances number owner
  pub was : Cell
  pub found : cell_of l owner.model ≡ Some was
  pub now : Cell
  pub there : Stands l.cells place now
  pub listed : cell_of l now.name ≡ Some now
  pub usable : IsUsable now
  pub pins : pin_ports now ≡ pin_ports was
  pub alike : AreAlike was.function now.function
  pub known : IsThere n.models now.name

-- the instance has the cell at this place, and all else is as it was
pub record IsSetTo (l : Library) (old new : Netlist) (number place : ℕ) : Type 0 where
  pub cell : Cell
  pub there : Stands l.cells place cell
  pub sets : SetsModel old new number cell.name

-- a longest path of the netlist, and all classes to which its steps lead are marked
pub record IsMarked (n : Netlist) (l : Library) (marks : List Bool) : Type 0 where
  pub class : ℕ
  pub end : IsEnd n l class
  pub time : ℕ
  pub path : TakesTo (IsStart n) (IsStep n l BeginsThere) (IsStep n l GoesThrough) class time
  pub longest : IsWorst n l time
  pub marked : (s : Step) → IsThere path.path s → slice_index_or marks s.to false ≡ true

-- where a path takes some time, one of the longest is marked
abbrev pub IsTraced : Netlist → Library → List Bool → Type 0
IsTraced n l marks = IsMarked n l marks ⊎ IsWorst n l 0
