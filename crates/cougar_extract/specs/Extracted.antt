-- The netlist of a layout: of its ports, its instances and its joined shapes.
use Rattle.std.specs.Prelude.{◌≡◌, ◌⊎◌, ◌↔◌, ℕ, ◌<◌, ◌^◌, List, [], map, length, Option, None, Some, All}
use Rattle.vlsi_base.specs.declared.name.Name.{Name}
use Rattle.vlsi_base.specs.declared.name.Port.{Port}
use Rattle.vlsi_base.specs.declared.name.Dir.TheVariants as dir
use Rattle.vlsi_base.specs.declared.name.Terminal.{Terminal}
use Rattle.vlsi_base.specs.Name.{name_text}
use Rattle.vlsi_base.specs.Member.{In}
use Rattle.machine_core.specs.Machine.{names_of}
use Rattle.sym_geom.specs.Rect.{IsCoordinate}
use Rattle.sym_geom.specs.declared.item.Instance.{Instance as Placed}
use Rattle.sym_geom.specs.declared.item.Item.{Item}
use Rattle.sym_shapes.specs.Ready.{IsReady}
use Rattle.sym_shapes.specs.Shape.{connector_names}
use Rattle.sym_shapes.specs.Joined.{AreJoined}
use Rattle.ap_io.specs.declared.figure.Figure.{Figure}
use Rattle.cell_model.specs.Cell.{Cell, cell_outputs}
use Rattle.cell_model.specs.Library.{Library, cell_of}
use Rattle.cell_model.specs.Layout.{instances_of, shapes}
use Rattle.cell_pins.specs.Pins.{all_ports}
use Rattle.net_core.specs.Places.{IsThere, NoneTwice}
use Rattle.net_core.specs.Netlist.{Instance, Netlist, IsNetlist, port, pin_of, HasClass}

-- What is known of each figure that was read: with its numbers the calls compute, its lines are fewer than 2^31, and no two
-- instances have one name.
pub record IsReadyFigure (f : Figure) : Type 0 where
  pub ready : All IsReady f.items
  pub places : (i : Placed) → In i (instances_of f.items) → IsCoordinate i.x × IsCoordinate i.y
  pub few : length f.items < 2 ^ 31
  pub once : NoneTwice (map (λ i. i.name) (instances_of f.items))

-- the model of each instance is a cell of the library
abbrev pub AreKnown : List Placed → Library → Type 0
AreKnown instances l = (i : Placed) → In i instances → (c : Cell) × (cell_of l i.model ≡ Some c)

-- the name of a figure as a text: no bytes where it has none
abbrev pub figure_text : Option Name → List ℕ
figure_text None = []
figure_text (Some name) = name_text name

-- the pins of a cell in the order of names, vdd and vss among them
abbrev pub pins_of_cell : Option Cell → List Name
pins_of_cell None = []
pins_of_cell (Some c) = names_of (all_ports c)

-- an instance of the figure as one of the netlist: it has the pins of its cell
abbrev pub instance_of : Library → Placed → Instance
instance_of l i = record { name = i.name; model = i.model; pins = pins_of_cell (cell_of l i.model) }

-- two terminals have shapes of the layout that a chain of links joins
abbrev pub AreTied : List Item → Library → Terminal → Terminal → Type 0
AreTied items l a b = AreJoined (shapes items l) a b

-- an output pin of an instance is joined to a port bit of this text
pub record IsDriven (items : List Item) (l : Library) (text : List ℕ) : Type 0 where
  pub bit : Name
  pub named : bit.text ≡ text
  pub instance : Placed
  pub stands : In instance (instances_of items)
  pub cell : Cell
  pub known : cell_of l instance.model ≡ Some cell
  pub pin : Name
  pub gives : In pin (cell_outputs cell)
  pub tied : AreTied items l (port bit) (pin_of instance.name pin)

-- The netlist of a figure, whose instances are cells of the library. Its ports are the names of the figure's connectors, on
-- whatever layer; one is an output exactly where an output pin is joined to a bit of its text. Its instances are the figure's, in
-- file order, each with the pins of its cell. Two terminals have one class exactly where they are the same or have joined shapes.
pub record IsExtracted (f : Figure) (l : Library) (n : Netlist) : Type 0 where
  pub sound : IsNetlist n
  pub name : n.name ≡ figure_text f.name
  pub ports : (name : Name) → In name (map (λ p. p.name) n.ports) ↔ In name (connector_names f.items)
  pub directions : (p : Port) → IsThere n.ports p → (p.dir ≡ dir.Out) ↔ IsDriven f.items l p.name.text
  pub known : AreKnown (instances_of f.items) l
  pub instances : n.instances ≡ map (instance_of l) (instances_of f.items)
  pub classes : (a b : Terminal) (j k : ℕ) → HasClass n a j → HasClass n b k → (j ≡ k) ↔ ((a ≡ b) ⊎ AreTied f.items l a b)
