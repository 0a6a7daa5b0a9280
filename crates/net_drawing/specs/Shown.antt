-- How much of a netlist a figure shows in which nets are drawn, and no signal pin is joined to a supply.
use Rattle.std.specs.Prelude.{◌≡◌, ◌⊎◌, ◌↔◌, ◌<◌, ℕ, List, map}
use Rattle.vlsi_base.specs.declared.name.Name.{Name}
use Rattle.vlsi_base.specs.declared.name.Terminal.{Terminal}
use Rattle.vlsi_base.specs.Member.{In}
use Rattle.vlsi_base.specs.Names.{vdd, vss}
use Rattle.sym_geom.specs.declared.item.Item.{Item}
use Rattle.sym_shapes.specs.Shape.{connector_names}
use Rattle.sym_shapes.specs.Joined.{AreJoined}
use Rattle.cell_model.specs.Layout.{instances_of, shapes}
use Rattle.cell_model.specs.Library.{Library}
use Rattle.net_meaning.specs.Netlist.{AbstractNetlist, port, IsTerminal}

-- the name of a supply, and a class that a supply's port is in
abbrev pub IsSupply : Name → Type 0
IsSupply name = (name ≡ vdd) ⊎ (name ≡ vss)

abbrev pub IsSupplyClass : AbstractNetlist → ℕ → Type 0
IsSupplyClass n class = (class ≡ n.class (port vdd)) ⊎ (class ≡ n.class (port vss))

-- a terminal outside the classes of vdd and vss
pub record IsOnNet (n : AbstractNetlist) (l : Library) (t : Terminal) : Type 0 where
  pub terminal : IsTerminal n l t
  pub free : IsSupplyClass n (n.class t) → ⊥

-- a signal pin in one of these classes
pub record IsTied (n : AbstractNetlist) (l : Library) (t : Terminal) : Type 0 where
  pub terminal : IsTerminal n l t
  pub signal : IsSupply t.pin → ⊥
  pub tied : IsSupplyClass n (n.class t)

-- The figure shows the netlist, but for the ties of its signal pins to supplies.
pub record ShowsNetlist (items : List Item) (l : Library) (n : AbstractNetlist) : Type 0 where
  -- its connectors are the ports, and its instances are those of the netlist
  pub ports : (name : Name) → In name n.ports ↔ In name (connector_names items)
  pub instances : n.instances ≡ map (λ i. record { name = i.name; model = i.model }) (instances_of items)
  -- a terminal outside the classes of vdd and vss is joined to exactly the others of its class
  pub nets : (a b : Terminal) → IsOnNet n l a → IsTerminal n l b → (n.class a ≡ n.class b) ↔ ((a ≡ b) ⊎ AreJoined (shapes items l) a b)
  -- a signal pin in one of these classes is joined to no other terminal
  pub tied : (a b : Terminal) → IsTied n l a → IsTerminal n l b → AreJoined (shapes items l) a b → b ≡ a
  -- a pin of a supply is joined to its port and to all pins of its name, and to no other terminal
  pub supplies : (a b : Terminal) → IsTerminal n l a → IsTerminal n l b → IsSupply a.pin → (b.pin ≡ a.pin) ↔ AreJoined (shapes items l) a b

-- The figure joins no two classes of the netlist, while terminals of one net may be joined or not; all else is as where it shows the
-- netlist.
pub record KeepsNetlist (items : List Item) (l : Library) (n : AbstractNetlist) : Type 0 where
  pub ports : (name : Name) → In name n.ports ↔ In name (connector_names items)
  pub instances : n.instances ≡ map (λ i. record { name = i.name; model = i.model }) (instances_of items)
  -- terminals of different classes aren't joined
  pub nets : (a b : Terminal) → IsTerminal n l a → IsTerminal n l b → AreJoined (shapes items l) a b → n.class a ≡ n.class b
  -- a signal pin in the class of a supply is joined to no other terminal
  pub tied : (a b : Terminal) → IsTied n l a → IsTerminal n l b → AreJoined (shapes items l) a b → b ≡ a
  -- a pin of a supply is joined to its port and to all pins of its name, and to no other terminal
  pub supplies : (a b : Terminal) → IsTerminal n l a → IsTerminal n l b → IsSupply a.pin → (b.pin ≡ a.pin) ↔ AreJoined (shapes items l) a b

-- The class of a supply holds its port and each instance's pin of its name, and nothing else; and classes are numbered without a gap.
pub record HasNoTies (n : AbstractNetlist) (l : Library) : Type 0 where
  pub high : (t : Terminal) → IsTerminal n l t → (n.class t ≡ n.class (port vdd)) ↔ (t.pin ≡ vdd)
  pub low : (t : Terminal) → IsTerminal n l t → (n.class t ≡ n.class (port vss)) ↔ (t.pin ≡ vss)
  pub numbered : (t : Terminal) → IsTerminal n l t → n.class t < n.classes
  pub used : (k : ℕ) → k < n.classes → (t : Terminal) × IsTerminal n l t × (n.class t ≡ k)
