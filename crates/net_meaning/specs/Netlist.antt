-- The netlist that a layout gives.
use Rattle.std.specs.Prelude.{◌≡◌, ◌⊎◌, ◌↔◌, ℕ, ◌<◌, List, map, None, Some}
use Rattle.vlsi_base.specs.declared.name.Name.{Name}
use Rattle.vlsi_base.specs.declared.name.Terminal.{Terminal}
use Rattle.sym_geom.specs.declared.item.Item.{Item}
use Rattle.vlsi_base.specs.Member.{In}
use Rattle.sym_shapes.specs.Shape.{connector_names}
use Rattle.sym_shapes.specs.Joined.{AreJoined}
use Rattle.cell_model.specs.Cell.{Cell}
use Rattle.cell_model.specs.Library.{Library, cell_of}
use Rattle.cell_model.specs.Layout.{instances_of, shapes}

-- an instance in a netlist
pub record Member : Type 0 where
  pub name : List ℕ
  -- the name of its cell
  pub model : List ℕ

pub record AbstractNetlist : Type 0 where
  -- the bits of its ports, vdd and vss among them
  pub ports : List Name
  pub instances : List Member
  -- how many classes of terminals there are; they are numbered from 0
  pub classes : ℕ
  pub class : Terminal → ℕ

-- a port of the netlist, and a pin of an instance
abbrev pub port : Name → Terminal
port name = record { instance = None; pin = name }

abbrev pub pin_of : List ℕ → Name → Terminal
pin_of owner name = record { instance = Some owner; pin = name }

-- the terminals of a netlist: its ports, and for each instance the connectors of its cell
pub data IsTerminal (n : AbstractNetlist) (l : Library) : Terminal → Type 0 where
  a_port : {name : Name} → In name n.ports → IsTerminal n l (port name)
  a_pin : {name : Name} (i : Member) (c : Cell) → In i n.instances → cell_of l i.model ≡ Some c → In name (connector_names c.items)
      → IsTerminal n l (pin_of i.name name)

-- The netlist of a layout. Its ports are the names of the figure's connectors, its instances are the figure's, and two
-- terminals have one class exactly where they are the same or have joined shapes. Classes are numbered without a gap.
pub record Extracts (items : List Item) (l : Library) (n : AbstractNetlist) : Type 0 where
  pub ports : (name : Name) → In name n.ports ↔ In name (connector_names items)
  pub instances : n.instances ≡ map (λ i. record { name = i.name; model = i.model }) (instances_of items)
  pub classes : (a b : Terminal) → IsTerminal n l a → IsTerminal n l b → (n.class a ≡ n.class b) ↔ ((a ≡ b) ⊎ AreJoined (shapes items l) a b)
  pub numbered : (t : Terminal) → IsTerminal n l t → n.class t < n.classes
  pub used : (k : ℕ) → k < n.classes → (t : Terminal) × IsTerminal n l t × (n.class t ≡ k)
