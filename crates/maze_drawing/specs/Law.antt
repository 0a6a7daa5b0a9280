-- The drawing of routes of a placed netlist is right: complete ones show the netlist, and incomplete ones join no two classes.
use Rattle.std.specs.Prelude.{◌≡◌, ℕ, ◌<◌, ◌≤◌, pos, ◌+ℤ◌, false, codes, List, [], ◌++◌, map, Option, length, slice_get}
use Rattle.std.specs.List.{flat_map}
use Rattle.std.specs.List.Sorted.{IsPermutation}
use Rattle.std.specs.Fmt.{decimal}
use Rattle.vlsi_base.specs.declared.name.Name.{Name}
use Rattle.sym_geom.specs.declared.grid.TheConstants.{FIRST_CELL_X}
use Rattle.sym_geom.specs.declared.item.Instance.{Instance}
use Rattle.sym_geom.specs.declared.item.Item.{Item}
use Rattle.sym_geom.specs.declared.item.Item.TheVariants as item
use Rattle.cell_model.specs.Access.{count_to}
use Rattle.cell_model.specs.Library.{Library}
use Rattle.net_meaning.specs.Netlist.{AbstractNetlist, Extracts}
use Rattle.net_meaning.specs.Breaches.{Breaches}
use Rattle.ocp_rows.specs.Placement.{Placement, IsPlaced, standing_rows, supplies_to, supply_ports, placed_ports, block_width, block_box, column_x, row_y, net_count}
use Rattle.net_drawing.specs.Shown.{ShowsNetlist, KeepsNetlist, HasNoTies}
use Rattle.net_drawing.specs.Drawing.{Numbering, HasNumberedNets}
use Rattle.grid_core.specs.declared.grid.Node.{Node}
use Rattle.grid_core.specs.Routes.{Tree, NetRoutes}
use Rattle.grid_core.specs.Trees.{AreRoutes, AreWhole}
use Rattle.maze_drawing.specs.Wiring.{NetWiring, Wiring, IsWiringOf, net_items}
use Rattle.maze_drawing.specs.Points.{grid_over, net_nodes, reserved, via_nodes}

-- ---- lines

-- the wires and vias of all nets
abbrev pub maze_wiring : AbstractNetlist → List Name → Wiring → List Item
maze_wiring n ports w = flat_map (λ k. net_items (slice_get ports k) (w k)) (count_to (net_count n))

-- all lines of the figure, with these lines for the instances
abbrev pub maze_items : AbstractNetlist → Library → Placement → List Instance → Wiring → List Item
maze_items n l p instances w =
    supply_ports ++ (placed_ports l p
    ++ (map item.Instance instances ++ (supplies_to (pos FIRST_CELL_X +ℤ block_width l p) p.rows ++ maze_wiring n p.ports w)))

-- a mark at a point of net k: its number stands right behind an n
abbrev pub mark : ℕ → Node → Item
mark k q = item.Reference (record { x = column_x q.column; y = row_y q.row; word = codes "ref_con"; name = codes "n" ++ decimal k })

-- the marks of all points, net by net
abbrev pub marks : AbstractNetlist → Library → Numbering → Placement → List Instance → List Item
marks n l net p instances = flat_map (λ k. map (mark k) (net_nodes n l net p instances k)) (count_to (net_count n))

-- all lines of a figure of routes that lack points
abbrev pub part_items : AbstractNetlist → Library → Numbering → Placement → List Instance → Wiring → List Item
part_items n l net p instances w = maze_items n l p instances w ++ marks n l net p instances

-- ---- what a drawing rests on

-- The netlist is placed in rows, its nets have trees on the grid over them, each on nodes that are free for it, and the wiring is
-- that of the trees.
pub record IsRouted (n : AbstractNetlist) (l : Library) (net : Numbering) (p : Placement) (instances : List Instance) (metals : ℕ)
    (routes : NetRoutes) (w : Wiring) : Type 0 where
  pub nets : HasNumberedNets n l net p.ports
  pub no_tracks : p.tracks ≡ false
  pub rows : 1 ≤ length p.rows
  -- each instance of the netlist stands in the rows once, and the lines of instances say where, in the netlist's order
  pub each_once : IsPermutation (flat_map (λ row. row) p.rows) n.instances
  pub stands : IsPermutation (standing_rows l false (pos 0) p.rows) instances
  pub listed : map (λ i. record { name = i.name; model = i.model }) instances ≡ n.instances
  pub few_metals : metals ≤ 6
  pub trees : AreRoutes (grid_over metals l p) (reserved n l net p instances) (net_nodes n l net p instances) (net_count n) routes
  pub drawn : (k : ℕ) → k < net_count n → IsWiringOf (routes k) (via_nodes n l net p instances k) (w k)

-- ---- the claims

-- The drawing of routes, complete or not, joins no two classes, breaks no rule, and is that of the placement.
abbrev pub RoutesKeepNets : Type 0
RoutesKeepNets =
    (n : AbstractNetlist) (l : Library) (net : Numbering) (p : Placement) (instances : List Instance) (metals : ℕ) (routes : NetRoutes) (w : Wiring)
    → IsRouted n l net p instances metals routes w
    → KeepsNetlist (maze_items n l p instances w) l n × Breaches (maze_items n l p instances w) l []
    × IsPlaced (block_box n l p) (maze_items n l p instances w) n l p

-- With marks at the points of nets it joins no two classes and breaks no rule either.
abbrev pub MarkedRoutesKeepNets : Type 0
MarkedRoutesKeepNets =
    (n : AbstractNetlist) (l : Library) (net : Numbering) (p : Placement) (instances : List Instance) (metals : ℕ) (routes : NetRoutes) (w : Wiring)
    → IsRouted n l net p instances metals routes w
    → KeepsNetlist (part_items n l net p instances w) l n × Breaches (part_items n l net p instances w) l []

-- That of complete routes shows the netlist.
abbrev pub RoutesShowNetlist : Type 0
RoutesShowNetlist =
    (n : AbstractNetlist) (l : Library) (net : Numbering) (p : Placement) (instances : List Instance) (metals : ℕ) (routes : NetRoutes) (w : Wiring)
    → IsRouted n l net p instances metals routes w → AreWhole (net_nodes n l net p instances) (net_count n) routes
    → ShowsNetlist (maze_items n l p instances w) l n

-- So they give it, where no signal pin is tied to a supply.
abbrev pub RoutesGiveNetlist : Type 0
RoutesGiveNetlist =
    (n : AbstractNetlist) (l : Library) (net : Numbering) (p : Placement) (instances : List Instance) (metals : ℕ) (routes : NetRoutes) (w : Wiring)
    → IsRouted n l net p instances metals routes w → AreWhole (net_nodes n l net p instances) (net_count n) routes → HasNoTies n l
    → Extracts (maze_items n l p instances w) l n

-- A tree has one wiring: what the drawing is of routes is said exactly.
abbrev pub WiringsAreOne : Type 0
WiringsAreOne =
    (t : Option Tree) (terminals : List Node) (v w : NetWiring) → IsWiringOf t terminals v → IsWiringOf t terminals w → v ≡ w
