-- The table of pins of a library's cells.
use Rattle.std.specs.Prelude.{◌≡◌, ◌⊎◌, ◌↔◌, IsTrue, Bool, false, ℕ, suc, zero, List, [], ◌∷◌, ◌++◌, length, slice_get, Some}
use Rattle.vlsi_base.specs.declared.name.Port.{Port}
use Rattle.vlsi_base.specs.Member.{Picks}
use Rattle.net_core.specs.declared.pins.ModelPin.{ModelPin}
use Rattle.net_core.specs.declared.pins.ModelPins.{ModelPins}
use Rattle.cell_model.specs.Cell.{Cell, Function}
use Rattle.cell_model.specs.Library.{Library, IsUsable}
use Rattle.net_core.specs.Checks.{IsPinTable}
use Rattle.cell_checks.specs.Checked.{IsChecked}
use Rattle.cell_pins.specs.Pins.{all_ports, IsClockPin}
use Rattle.cell_pins.specs.Follows.{DependsOn}

-- the first n places of a list
abbrev pub first_places : ℕ → List ℕ
first_places zero = []
first_places (suc n) = first_places n ++ n ∷ []

-- the pin at this place is an input on which the output depends at once
abbrev pub DependsAt : Function → List Port → Port → ℕ → Type 0
DependsAt f ports output place = (input : Port) × (slice_get ports place ≡ Some input) × DependsOn f output input

-- the places of those pins, in rising order
abbrev pub AreDependences : Function → List Port → Port → List ℕ → Type 0
AreDependences f ports output places = Picks (DependsAt f ports output) (first_places (length ports)) places

-- a port among a cell's, as a pin of its model
pub record IsPinOf (f : Function) (ports : List Port) (port : Port) (p : ModelPin) : Type 0 where
  pub name : p.name ≡ port.name
  pub dir : p.dir ≡ port.dir
  pub clock : IsTrue p.is_clock ↔ IsClockPin f port.name
  pub depends : AreDependences f ports port p.depends_on

-- each of the ports in turn is a pin of the model
pub data ArePins (f : Function) (ports : List Port) : List Port → List ModelPin → Type 0 where
  no_pins : ArePins f ports [] []
  one_pin : {port : Port} {p : ModelPin} {rest : List Port} {pins : List ModelPin}
      → IsPinOf f ports port p → ArePins f ports rest pins → ArePins f ports (port ∷ rest) (p ∷ pins)

-- a cell as a model: its name, and its pins with vdd and vss in the order of names
pub record IsModelOf (c : Cell) (m : ModelPins) : Type 0 where
  pub name : m.model ≡ c.name
  pub pins : ArePins c.function (all_ports c) (all_ports c) m.pins

-- the models of those cells that have P, in their order
pub data AreModels (P : Cell → Type 0) : List Cell → List ModelPins → Type 0 where
  no_models : AreModels P [] []
  listed : {c : Cell} {m : ModelPins} {cells : List Cell} {models : List ModelPins}
      → P c → IsModelOf c m → AreModels P cells models → AreModels P (c ∷ cells) (m ∷ models)
  left_out : {c : Cell} {cells : List Cell} {models : List ModelPins}
      → (P c → ⊥) → AreModels P cells models → AreModels P (c ∷ cells) models

-- the cell is listed: any, or only a usable one
abbrev pub IsListed : Bool → Cell → Type 0
IsListed all c = IsTrue all ⊎ IsUsable c

-- the table lists every cell of the library, or the usable ones alone
abbrev pub IsTableOf : Library → Bool → List ModelPins → Type 0
IsTableOf l all table = AreModels (IsListed all) l.cells table

-- the usable cells of a library have a table of their pins
pub record HasPinTable (l : Library) : Type 0 where
  pub table : List ModelPins
  pub listed : IsTableOf l false table
  pub sound : IsPinTable table

-- so have those of every library that has passed its checks
abbrev pub LibrariesHaveTables : Type 0
LibrariesHaveTables = (l : Library) → IsChecked false l → HasPinTable l
