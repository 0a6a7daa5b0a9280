-- Which cells are mappable, and what is known of each cell that was made of its files.
use Rattle.std.specs.Prelude.{◌≡◌, ◌≢◌, AllPairs, All, IsTrue, ℕ, ◌≤◌, ◌<◌, ◌^◌, length, Option, None, Some}
use Rattle.vlsi_base.specs.declared.name.Name.{Name}
use Rattle.vlsi_base.specs.declared.name.Port.{Port}
use Rattle.vlsi_base.specs.Member.{In}
use Rattle.vlsi_base.specs.Names.{vdd, vss, comes_before}
use Rattle.machine_core.specs.Machine.{names_of}
use Rattle.machine_core.specs.Checked.{IsChecked}
use Rattle.sym_geom.specs.Rect.{IsRect, HasCoordinates}
use Rattle.sym_geom.specs.declared.layer.Layer.{Layer}
use Rattle.sym_geom.specs.Metal.{metal_of}
use Rattle.sym_geom.specs.Items.{lower_metal}
use Rattle.sym_geom.specs.declared.item.Item.{Item}
use Rattle.sym_geom.specs.declared.item.Item.TheVariants as item
use Rattle.sym_shapes.specs.Shape.{Shape, drawn}
use Rattle.sym_shapes.specs.Ready.{IsReady}
use Rattle.cell_model.specs.Function.{Function, gate, flip_flop, other, opaque}
use Rattle.cell_model.specs.declared.cell.Pin.{Pin}
use Rattle.cell_model.specs.Cell.{Cell, pin_ports}
use Rattle.cell_model.specs.Library.{IsPlain, IsLowBlockage, KeepsLow}

-- a gate or a plain flip-flop
abbrev pub IsPlainForm : Function → Type 0
IsPlainForm (gate e) = Unit {0}
IsPlainForm (flip_flop data_pin clock_pin) = Unit {0}
IsPlainForm (other machine) = ⊥
IsPlainForm opaque = ⊥

-- the pin is no bit of a vector
abbrev pub IsScalarPin : Pin → Type 0
IsScalarPin p = p.port.name.bit ≡ None

-- A cell is mappable if it is a gate or a plain flip-flop, its pins are scalars, and no shape and no TALU of it stands above
-- metal 1.
pub record IsMappable (c : Cell) : Type 0 where
  pub form : IsPlainForm c.function
  pub scalars : (p : Port) → In p (pin_ports c) → p.name.bit ≡ None
  pub metal : (s : Shape) → In s (drawn c.items) → s.metal ≤ 1
  pub blockage : (one : Item) → In one c.items → KeepsLow one

-- a gate and a plain flip-flop fit the pins, and the ports of another machine, which has passed its checks, are the pins
abbrev pub FitsPins : Cell → Function → Type 0
FitsPins c (gate e) = IsPlain c (gate e)
FitsPins c (flip_flop data_pin clock_pin) = IsPlain c (flip_flop data_pin clock_pin)
FitsPins c (other machine) = (machine.ports ≡ pin_ports c) × IsChecked machine
FitsPins c opaque = Unit {0}

-- What is known of a cell that was made of its two files, before any check of its layout: its function fits its pins, which are
-- no supplies and stand in the order of their names, and its lines are within the limits of a file.
pub record IsFormed (c : Cell) : Type 0 where
  pub function : FitsPins c c.function
  pub order : AllPairs (λ a b. IsTrue (comes_before a b)) (names_of (pin_ports c))
  pub signals : (name : Name) → In name (names_of (pin_ports c)) → (name ≢ vdd) × (name ≢ vss)
  pub bounds : IsRect c.bounds
  pub coordinates : HasCoordinates c.bounds
  pub ready : All IsReady c.items
  pub few : length c.items < 2 ^ 31

-- on metal 1, or on none
abbrev pub IsLowMetal : Option ℕ → Type 0
IsLowMetal None = Unit {0}
IsLowMetal (Some metal) = metal ≤ 1

abbrev pub IsLowLayer : Layer → Type 0
IsLowLayer layer = IsLowMetal (metal_of layer) × IsLowBlockage layer

-- a line that neither draws nor blocks anything above metal 1
abbrev pub IsLow : Item → Type 0
IsLow (item.Segment s) = IsLowLayer s.layer
IsLow (item.Connector c) = IsLowLayer c.layer
IsLow (item.Via v) = lower_metal v.contact ≡ None
IsLow (item.Instance i) = Unit {0}
IsLow (item.Reference r) = Unit {0}
IsLow (item.Remark text) = Unit {0}
