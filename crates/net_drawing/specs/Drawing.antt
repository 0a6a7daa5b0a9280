-- The wiring of a netlist by private tracks, over cells in one row.
use Rattle.std.specs.Prelude.{◌≡◌, ◌≢◌, ◌↔◌, ℕ, ◌<◌, ◌≤◌, ℤ, pos, ◌+ℤ◌, Bool, List, [], ◌∷◌, ◌++◌, map, flat_map, Option, None, Some, AllPairs, IsTrue, slice_get, nat_eq, if◌then◌else◌}
use Rattle.sym_geom.specs.declared.grid.TheConstants.{WIRE_WIDTH, FIRST_CELL_X}
use Rattle.vlsi_base.specs.declared.name.Name.{Name}
use Rattle.vlsi_base.specs.declared.name.Terminal.{Terminal}
use Rattle.machine_core.specs.Machine.{names_of}
use Rattle.sym_geom.specs.declared.rect.Transform.TheVariants.{NoSym}
use Rattle.sym_geom.specs.declared.layer.Layer.TheVariants.{Alu}
use Rattle.sym_geom.specs.declared.layer.Level.TheVariants.{Two, Three}
use Rattle.sym_geom.specs.declared.item.Contact.TheVariants.{Via1, Via2}
use Rattle.sym_geom.specs.declared.item.Item.{Item}
use Rattle.sym_geom.specs.declared.item.Item.TheVariants as item
use Rattle.vlsi_base.specs.Member.{In}
use Rattle.vlsi_base.specs.Names.{comes_before}
use Rattle.cell_model.specs.Cell.{Cell, pin_ports}
use Rattle.cell_model.specs.Library.{Library, cell_of, IsUsable}
use Rattle.net_meaning.specs.Netlist.{Member, AbstractNetlist, port, pin_of, IsTerminal}
use Rattle.vlsi_base.specs.Names.{vdd, vss}
use Rattle.ocp_rows.specs.Placement.{model_width, level_wire, upright_wire, contact_at, standing, supplies, supply_ports, track_ports, track_y, net_count}
use Rattle.ocp_rows.specs.Length.{least, greatest}
use Rattle.cell_model.specs.Access.{access_point, count_to}
pub use Rattle.cell_model.specs.Access.{Point}
use Rattle.net_drawing.specs.Clean.{IsClean, PinColumnsDiffer}
use Rattle.net_drawing.specs.Shown.{IsSupplyClass, IsOnNet}

-- the net number of each class
abbrev pub Numbering : Type 0
Numbering = ℕ → ℕ

-- what f gives for each instance of a row that begins at x, at the instance's own x
abbrev pub along : {A : Type 0} → Library → (ℤ → Member → List A) → ℤ → List Member → List A
along l f x [] = []
along l f x (one ∷ rest) = f x one ++ along l f (x +ℤ model_width l one.model) rest

-- the terminal is on net k
abbrev pub on_net : AbstractNetlist → Numbering → ℕ → Terminal → Bool
on_net n net k t = nat_eq (net (n.class t)) k

-- what g gives for the point of a cell, in an instance of it at x, y 0
abbrev pub at_point : {A : Type 0} → (Point → List A) → ℤ → Option Point → List A
at_point g x None = []
at_point g x (Some q) = g (q.0 +ℤ x, q.1)

-- what g gives for the point of a pin, if it is on net k; and for those of all pins of an instance
abbrev pub of_pin : {A : Type 0} → AbstractNetlist → Numbering → ℕ → (Point → List A) → ℤ → List ℕ → Cell → Name → List A
of_pin n net k g x owner c pin = if on_net n net k (pin_of owner pin) then at_point g x (access_point c pin) else []

abbrev pub of_cell : {A : Type 0} → AbstractNetlist → Numbering → ℕ → (Point → List A) → ℤ → List ℕ → Option Cell → List A
of_cell n net k g x owner None = []
of_cell n net k g x owner (Some c) = flat_map (of_pin n net k g x owner c) (names_of (pin_ports c))

-- what g gives for the points of the pins on net k, in the order of instances and of names
abbrev pub of_pins : {A : Type 0} → AbstractNetlist → Library → Numbering → ℕ → (Point → List A) → List A
of_pins n l net k g = along l (λ x one. of_cell n net k g x one.name (cell_of l one.model)) (pos FIRST_CELL_X) n.instances

-- a terminal's wire on metal 3 up to the track of net k, and its vias
abbrev pub riser : ℕ → Option Name → Point → List Item
riser k name q =
    upright_wire (Alu Three) (pos WIRE_WIDTH) q.0 q.1 (track_y k) name
    ∷ contact_at Via1 q.0 q.1 name ∷ contact_at Via2 q.0 q.1 name ∷ contact_at Via2 q.0 (track_y k) name ∷ []

-- a port stands at the left end of its track
abbrev pub port_xs : Option Name → List ℤ
port_xs None = []
port_xs (Some name) = pos FIRST_CELL_X ∷ []

-- the track of a net from its least to its greatest x; none for a port alone
abbrev pub track_over : ℕ → Option Name → List ℤ → List ℤ → List Item
track_over k name ports [] = []
track_over k name ports (x ∷ xs) =
    level_wire (Alu Two) (pos WIRE_WIDTH) (least x (xs ++ ports)) (greatest x (xs ++ ports)) (track_y k) name ∷ []

-- the lines of net k, and those of all nets
abbrev pub net_wiring : AbstractNetlist → Library → Numbering → List Name → ℕ → List Item
net_wiring n l net ports k =
    track_over k (slice_get ports k) (port_xs (slice_get ports k)) (of_pins n l net k (λ q. q.0 ∷ []))
    ++ of_pins n l net k (riser k (slice_get ports k))

abbrev pub wiring : AbstractNetlist → Library → Numbering → List Name → List Item
wiring n l net ports = flat_map (net_wiring n l net ports) (count_to (net_count n))

-- all lines of the figure
abbrev pub track_items : AbstractNetlist → Library → Numbering → List Name → List Item
track_items n l net ports =
    supply_ports ++ (track_ports 0 ports
    ++ (map item.Instance (standing l NoSym (pos 0) (pos FIRST_CELL_X) n.instances)
    ++ (supplies l (n.instances ∷ []) ++ wiring n l net ports)))

-- The netlist may be drawn: its instances are usable and clean cells, its ports the supplies and these, and its nets are numbered, port
-- by port first.
pub record HasNumberedNets (n : AbstractNetlist) (l : Library) (net : Numbering) (ports : List Name) : Type 0 where
  pub models : (one : Member) → In one n.instances → (c : Cell) × (cell_of l one.model ≡ Some c) × IsUsable c × IsClean c
  pub names : AllPairs (λ a b. a.name ≢ b.name) n.instances
  pub order : AllPairs (λ a b. IsTrue (comes_before a b)) ports
  pub port_names : (name : Name) → In name ports ↔ (In name n.ports × (name ≢ vdd) × (name ≢ vss))
  pub has_vdd : In vdd n.ports
  pub has_vss : In vss n.ports
  -- each instance's pin of a supply is in the class of the supply's port, and no other port is
  pub high : (t : Terminal) → IsTerminal n l t → t.pin ≡ vdd → n.class t ≡ n.class (port vdd)
  pub low : (t : Terminal) → IsTerminal n l t → t.pin ≡ vss → n.class t ≡ n.class (port vss)
  pub free : (name : Name) → In name ports → IsSupplyClass n (n.class (port name)) → ⊥
  -- nets are the classes but for the supplies', by numbers; net k is that of port k where there is one
  pub below : (t : Terminal) → IsOnNet n l t → net (n.class t) < net_count n
  pub past : (class : ℕ) → IsSupplyClass n class → net_count n ≤ net class
  pub one_class : (t u : Terminal) → IsOnNet n l t → IsOnNet n l u → net (n.class t) ≡ net (n.class u) → n.class t ≡ n.class u
  pub port_nets : (k : ℕ) (name : Name) → slice_get ports k ≡ Some name → net (n.class (port name)) ≡ k

-- It may be drawn by private tracks: the pins of its cells have columns of their own.
pub record IsDrawable (n : AbstractNetlist) (l : Library) (net : Numbering) (ports : List Name) : Type 0 where
  pub nets : HasNumberedNets n l net ports
  pub columns : (one : Member) (c : Cell) → In one n.instances → cell_of l one.model ≡ Some c → PinColumnsDiffer c
