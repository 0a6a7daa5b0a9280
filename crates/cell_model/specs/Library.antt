-- Libraries, and the cells that a netlist may use.
use Rattle.std.specs.Prelude.{◌≡◌, ◌≢◌, ◌⊎◌, ◌↔◌, AllPairs, IsTrue, ℕ, ◌≤◌, List, [], ◌∷◌, length, Option, None, Some, if◌then◌else◌}
use Rattle.vlsi_base.specs.declared.name.Name.{Name}
use Rattle.vlsi_base.specs.declared.name.Port.{Port}
use Rattle.bool_expr.specs.Expression.{IsOver}
use Rattle.machine_core.specs.Named.{is_same_text}
use Rattle.machine_core.specs.Machine.{names_of}
use Rattle.sym_geom.specs.Metal.{level_number}
use Rattle.sym_geom.specs.declared.layer.Layer.{Layer}
use Rattle.sym_geom.specs.declared.layer.Layer.TheVariants.{Talu}
use Rattle.sym_geom.specs.declared.item.Item.{Item}
use Rattle.sym_geom.specs.declared.item.Item.TheVariants as item
use Rattle.vlsi_base.specs.Member.{In}
use Rattle.vlsi_base.specs.Names.{vdd, vss, comes_before}
use Rattle.sym_shapes.specs.Shape.{Shape, drawn, connector_names}
use Rattle.cell_model.specs.Cell.{Function, gate, flip_flop, other, opaque, Cell, pin_ports, cell_inputs, cell_outputs}

-- A library, by its cells. That they have passed their checks is said beside it, where they were made.
pub record Library : Type 0 where
  -- in the order of their list
  pub cells : List Cell

-- the first cell of this name
abbrev pub cell_named : List Cell → List ℕ → Option Cell
cell_named [] model = None
cell_named (c ∷ rest) model = if is_same_text c.name model then Some c else cell_named rest model

abbrev pub cell_of : Library → List ℕ → Option Cell
cell_of l model = cell_named l.cells model

-- A gate has one output and at most 6 inputs, which its expression is over. A plain flip-flop has one output, and no inputs
-- but data and clock.
abbrev pub IsPlain : Cell → Function → Type 0
IsPlain c (gate e) = (length (cell_outputs c) ≡ 1) × (length (cell_inputs c) ≤ 6) × IsOver e (length (cell_inputs c))
IsPlain c (flip_flop data_pin clock_pin) =
    (length (cell_outputs c) ≡ 1) × (length (cell_inputs c) ≡ 2)
    × In data_pin (cell_inputs c) × In clock_pin (cell_inputs c) × (data_pin ≢ clock_pin)
IsPlain c (other machine) = ⊥
IsPlain c opaque = ⊥

-- on TALU at most level 1
abbrev pub IsLowBlockage : Layer → Type 0
IsLowBlockage (Talu level) = level_number level ≤ 1
IsLowBlockage _ = Unit {0}

abbrev pub KeepsLow : Item → Type 0
KeepsLow (item.Segment s) = IsLowBlockage s.layer
KeepsLow (item.Connector c) = IsLowBlockage c.layer
KeepsLow _ = Unit {0}

-- A cell that a netlist may use: a gate or a plain flip-flop, whose pins are scalars, with nothing above metal 1. Its pins
-- stand in the order of their names, and with vdd and vss they are the connectors of its layout.
pub record IsUsable (c : Cell) : Type 0 where
  pub function : IsPlain c c.function
  pub order : AllPairs (λ a b. IsTrue (comes_before a b)) (names_of (pin_ports c))
  pub connectors : (name : Name) → In name (connector_names c.items) ↔ ((name ≡ vdd) ⊎ ((name ≡ vss) ⊎ In name (names_of (pin_ports c))))
  pub scalars : (p : Port) → In p (pin_ports c) → p.name.bit ≡ None
  pub metal : (s : Shape) → In s (drawn c.items) → s.metal ≤ 1
  pub blockage : (one : Item) → In one c.items → KeepsLow one
