-- The wires and vias of a net's tree: greatest runs of its steps, and its vias, in order.
use Rattle.std.specs.Prelude.{◌≡◌, ◌↔◌, ℕ, ◌<◌, ◌≤◌, pos, Bool, ◌&&◌, ◌||◌, List, ◌∷◌, ◌++◌, map, Option, AllPairs, IsTrue, nat_eq, nat_lt, if◌then◌else◌}
use Rattle.sym_geom.specs.declared.grid.TheConstants.{WIRE_WIDTH}
use Rattle.vlsi_base.specs.declared.name.Name.{Name}
use Rattle.vlsi_base.specs.Member.{In}
use Rattle.sym_geom.specs.declared.layer.Layer.TheVariants.{Alu}
use Rattle.sym_geom.specs.declared.layer.Level.{Level}
use Rattle.sym_geom.specs.declared.layer.Level.TheVariants.{One, Two, Three, Four, Five, Six}
use Rattle.sym_geom.specs.declared.item.Contact.{Contact}
use Rattle.sym_geom.specs.declared.item.Contact.TheVariants.{Via1, Via2, Via3, Via4, Via5}
use Rattle.sym_geom.specs.declared.item.Item.{Item}
use Rattle.ocp_rows.specs.Placement.{level_wire, upright_wire, contact_at, column_x, row_y}
use Rattle.grid_core.specs.declared.grid.Node.{Node}
use Rattle.grid_core.specs.Grid.{is_level, ahead, above}
use Rattle.grid_core.specs.Routes.{Tree, tree_paths, tree_nodes}

-- p and q stand side by side on the path
pub data AreBeside (p q : Node) : List Node → Type 0 where
  in_order : {rest : List Node} → AreBeside p q (p ∷ (q ∷ rest))
  turned : {rest : List Node} → AreBeside p q (q ∷ (p ∷ rest))
  later : {x : Node} {rest : List Node} → AreBeside p q rest → AreBeside p q (x ∷ rest)

-- and on a path of the tree
pub record AreNeighbours (t : Option Tree) (p q : Node) : Type 0 where
  pub path : List Node
  pub listed : In path (tree_paths t)
  pub beside : AreBeside p q path

-- the tree has the step from p to the node ahead
abbrev pub HasStep : Option Tree → Node → Type 0
HasStep t p = AreNeighbours t p (ahead p 1)

-- a wire of so many steps, from its lesser end
pub record Wire : Type 0 where
  pub from : Node
  pub steps : ℕ

-- its steps are those of the tree, and the tree has none before or after them
pub record IsGreatestRun (t : Option Tree) (w : Wire) : Type 0 where
  pub long : 1 ≤ w.steps
  pub has : (j : ℕ) → j < w.steps → HasStep t (ahead w.from j)
  pub first : (p : Node) → ahead p 1 ≡ w.from → HasStep t p → ⊥
  pub last : HasStep t (ahead w.from w.steps) → ⊥

-- the step from p lies on the wire
pub record IsOnWire (w : Wire) (p : Node) : Type 0 where
  pub at : ℕ
  pub below : at < w.steps
  pub is : p ≡ ahead w.from at

-- A via from v to the node above it: between two neighbours of the tree, or from a terminal's pin up to its node in the tree.
pub data HasVia (t : Option Tree) (terminals : List Node) (v : Node) : Type 0 where
  in_tree : AreNeighbours t v (above v) → HasVia t terminals v
  at_terminal : v.metal ≡ 1 → In (above v) terminals → In (above v) (tree_nodes t) → HasVia t terminals v

-- three numbers come before three others, the first that differ deciding
abbrev pub precede : ℕ → ℕ → ℕ → ℕ → ℕ → ℕ → Bool
precede a b c x y z = nat_lt a x || (nat_eq a x && (nat_lt b y || (nat_eq b y && nat_lt c z)))

-- wires by metal, column and row of their lesser ends; vias by column, row and lower metal
abbrev pub wire_precedes : Wire → Wire → Bool
wire_precedes v w = precede v.from.metal v.from.column v.from.row w.from.metal w.from.column w.from.row

abbrev pub via_precedes : Node → Node → Bool
via_precedes v w = precede v.column v.row v.metal w.column w.row w.metal

-- the wires and vias of a net, by their lower nodes
pub record NetWiring : Type 0 where
  pub wires : List Wire
  pub vias : List Node

abbrev pub Wiring : Type 0
Wiring = ℕ → NetWiring

-- The wires are exactly the greatest runs of the tree's steps, and the vias those of the tree and of these terminals, each in order.
pub record IsWiringOf (t : Option Tree) (terminals : List Node) (w : NetWiring) : Type 0 where
  pub runs : (one : Wire) → In one w.wires → IsGreatestRun t one
  pub whole : (p : Node) → HasStep t p → (one : Wire) × In one w.wires × IsOnWire one p
  pub wire_order : AllPairs (λ a b. IsTrue (wire_precedes a b)) w.wires
  pub vias : (v : Node) → In v w.vias ↔ HasVia t terminals v
  pub via_order : AllPairs (λ a b. IsTrue (via_precedes a b)) w.vias

-- ---- as lines

abbrev pub level_of : ℕ → Level
level_of metal =
    if nat_eq metal 2 then Two
    else if nat_eq metal 3 then Three
    else if nat_eq metal 4 then Four
    else if nat_eq metal 5 then Five
    else if nat_eq metal 6 then Six
    else One

-- the contact that joins a metal and the next
abbrev pub contact_of : ℕ → Contact
contact_of metal =
    if nat_eq metal 2 then Via2
    else if nat_eq metal 3 then Via3
    else if nat_eq metal 4 then Via4
    else if nat_eq metal 5 then Via5
    else Via1

abbrev pub wire_between : Option Name → Node → Node → Item
wire_between name a b =
    if is_level a.metal
    then level_wire (Alu (level_of a.metal)) (pos WIRE_WIDTH) (column_x a.column) (column_x b.column) (row_y a.row) name
    else upright_wire (Alu (level_of a.metal)) (pos WIRE_WIDTH) (column_x a.column) (row_y a.row) (row_y b.row) name

abbrev pub wire_item : Option Name → Wire → Item
wire_item name w = wire_between name w.from (ahead w.from w.steps)

abbrev pub via_item : Option Name → Node → Item
via_item name v = contact_at (contact_of v.metal) (column_x v.column) (row_y v.row) name

abbrev pub net_items : Option Name → NetWiring → List Item
net_items name w = map (wire_item name) w.wires ++ map (via_item name) w.vias
