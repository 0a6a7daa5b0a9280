-- The points of a placement's classes: which are those of nets, and that they lie on the grid.
use Rattle.std.proofs.Common.{◌≡◌, inl, inr, ℕ, ◌+◌, ◌*◌, ◌-◌, ◌/◌, ◌<◌, ◌≤◌, Bool, true, false, cond, not, filter, List, [], ◌∷◌, ◌++◌, map, length, Some, sym, ap, subst, ◌∙◌, arith}
use Rattle.std.specs.Prelude.{slice_get, slice_index_or}
use Rattle.std.specs.List.{All}
use Rattle.std.proofs.lemmas.Bool.{cases_lt}
use Rattle.std.proofs.lemmas.List.{length-map}
use Rattle.std.proofs.lemmas.Option.{slice_get_within}
use Rattle.std.proofs.Math.Nat.{mul-div-le, mul-le-mul_right}
use Rattle.vlsi_base.specs.declared.name.Name.{Name}
use Rattle.vlsi_base.specs.Member.{In, here, there}
use Rattle.sym_geom.specs.declared.item.Instance.{Instance}
use Rattle.cell_model.specs.Access.{Point}
use Rattle.cell_model.specs.Library.{Library}
use Rattle.cell_model.proofs.Members.{In-map, All-from}
use Rattle.net_meaning.specs.Netlist.{AbstractNetlist, port}
use Rattle.ocp_rows.specs.Placement.{Placement, block_columns, port_column, port_row, net_count}
use Rattle.block_geom.specs.Block.{flip_of, turned_row, pin_column, pin_row}
use Rattle.block_geom.proofs.Tracks.{pin_inside}
use Rattle.net_drawing.specs.Drawing.{Numbering}
use Rattle.ocp_place.specs.declared.row.Site.{Site as Placed}
use Rattle.ocp_place.specs.Nets.{is_among, signal_ports, port_classes, driven, net_classes, net_number}
use Rattle.ocp_place.specs.Orderly.{IsOrderly}
use Rattle.ocp_place.specs.Placed.{InRow, AreRowsOf, rows_of, stood_in}
use Rattle.ocp_place.specs.Reaches.{site_of}
use Rattle.ocp_place.specs.Sites.{Site, points_in}
use Rattle.ocp_place.specs.Stood.{member, stood_sites, port_grid_sites}
use Rattle.ocp_place.proofs.RowSited.{columns_are}
use Rattle.nero_tracks.specs.Tracks.{net_pins}
use Rattle.nero_tracks.proofs.Drivers.{nets_differ}
use Rattle.nero_tracks.proofs.Numbered.{nets_are_counted}
use Rattle.grid_core.specs.declared.grid.Node.{Node}
use Rattle.maze_drawing.specs.Points.{port_node, port_nodes, terminal_nodes}
use Rattle.maze_drawing.proofs.Pins.{terminal_cases}
use Rattle.maze_drawing.proofs.Stands.{block_at, sound}
use Rattle.ocp_grid.specs.Law.{IsInRows}
use Rattle.ocp_grid.specs.Sites.{point_node, IsOnGrid, net_port}
use Rattle.ocp_grid.proofs.InRows.{no_routes, no_wiring, unrouted}
use Rattle.ocp_grid.proofs.Sited.{points_append, pins_are, top, no_port, one_port, is_less, is_not_less, port_first, pins_behind, port_none, pins_alone, top_node, different_left, past_all, stands_first}

-- ---- pins

turned_low : (f : Bool) (r : ℕ) → r ≤ 10 → turned_row f r ≤ 10
turned_low true r h = omega arith
turned_low false r h = h

module _ (n : AbstractNetlist) (l : Library) (net : Numbering) (p : Placement) (instances : List Instance) (r : IsInRows n l net p instances) where
  -- the pins of nets stand over the rows
  pub terminal_inside : (k : ℕ) → k < net_count n → (x : Node) → In x (terminal_nodes n l net instances k) → (x.column ≤ block_columns l p) × (x.row ≤ 10 * length p.rows)
  terminal_inside k low x h =
      let ok = unrouted n l net p instances r in
      let b = block_at n l net p instances in
      let s = sound n l net p instances 3 no_routes no_wiring ok in
      let t = terminal_cases n l net p instances 3 no_routes no_wiring ok k low x h in
      let inside = pin_inside (b.cell t.i) t.q (s.cells t.i t.instance) t.pin in
      let end = s.end t.i t.instance in
      let row = s.row t.i t.instance in
      let turned = turned_low (flip_of (b.row t.i)) ((b.cell t.i).row t.q) inside.2 in
      let column_is : x.column ≡ pin_column b t.i t.q - 3 = ap (λ (v : Node). v.column) t.is in
      let row_is : x.row ≡ pin_row b t.i t.q = ap (λ (v : Node). v.row) t.is in
      let narrow = inside.1 in
      (omega (arith, end, column_is, narrow), omega (arith, row, row_is, turned))

-- ---- ports

-- the column of a port's rank
port_inside : (count columns k : ℕ) → k < count → port_column count columns k ≤ columns + 1
port_inside count columns k low =
    let most = mul-div-le (columns - 1) count in
    let more = times ((columns - 1) / count) in
    omega (arith, most, more)
  where
    times : (m : ℕ) → k * m ≤ count * m
    times m = mul-le-mul_right m (omega (arith, low))

-- ---- the points of a net's class

module _ (n : AbstractNetlist) (l : Library) (o : IsOrderly n l) (p : InRow) (are : AreRowsOf n l p) (rows : IsInRows n l (net_number n l) (rows_of n p) (stood_in n p))
    (narrow : p.width / 500 < 4294967295) where
  -- the classes of nets, as the placement has them
  pub classes_are : (classes : List ℕ) → classes ≡ p.ports ++ filter (λ class. not (is_among p.ports class)) p.drivers → classes ≡ net_classes n l
  classes_are classes e =
      e ∙ ap (λ (ports : List ℕ). ports ++ filter (λ class. not (is_among ports class)) p.drivers) are.ports
      ∙ ap (λ (drivers : List ℕ). port_classes n ++ filter (λ class. not (is_among (port_classes n) class)) drivers) are.drivers

  pub nets_many : length (net_classes n l) ≡ net_count n
  nets_many = let c = nets_are_counted n l o in omega (arith, c)

  abbrev column : ℕ → ℕ
  column = port_column (length (port_classes n)) (p.width / 500)

  abbrev tops : List Site
  tops = port_grid_sites (p.width / 500) (length p.rows) (port_classes n)

  abbrev pins : List Site
  pins = stood_sites n l (stood_in n p)

  abbrev others : List ℕ
  others = filter (λ class. not (is_among (port_classes n) class)) (driven n l n.instances)

  module _ (k class : ℕ) (at : slice_get (net_classes n l) k ≡ Some class) (low : class < n.classes) where
    abbrev points : List Point
    points = slice_index_or p.ends class []

    split : points ≡ points_in class tops ++ points_in class pins
    split = are.ends class [] low ∙ points_append class tops pins

    -- behind that of its port
    ends_with : k < length (port_classes n) → points ≡ top column (length p.rows) k ∷ points_in class pins
    ends_with less =
        let own = stands_first (port_classes n) others k class at less in
        split ∙ ap (λ (qs : List Point). qs ++ points_in class pins)
        (one_port column (length p.rows) 0 k class (port_classes n) (different_left (port_classes n) others (nets_differ n l o)) own
        ∙ ap (λ (j : ℕ). top column (length p.rows) j ∷ []) (let e : 0 + k ≡ k = omega arith in e))

    ends_alone : length (port_classes n) ≤ k → points ≡ points_in class pins
    ends_alone past =
        split ∙ ap (λ (qs : List Point). qs ++ points_in class pins)
        (no_port column (length p.rows) 0 class (port_classes n) (past_all (port_classes n) others (nets_differ n l o) k class at past))

    many_ports : length p.ports ≡ length (port_classes n)
    many_ports = ap length are.ports

    many_names : length (port_classes n) ≡ length (signal_ports n)
    many_names = length-map (signal_ports n) (λ (name : Name). n.class (port name))

    -- the points of its pins
    pins_of : net_pins (length p.ports) k points ≡ points_in class pins
    pins_of = elim (cases_lt k (length (port_classes n))) [
      | inl less ↦ ap (net_pins (length p.ports) k) (ends_with less)
          ∙ pins_behind (length p.ports) k (top column (length p.rows) k) (points_in class pins) (let e = many_ports in omega (arith, less, e))
      | inr past ↦ ap (net_pins (length p.ports) k) (ends_alone past) ∙ pins_alone (length p.ports) k (points_in class pins) (let e = many_ports in omega (arith, past, e))
    ]

    pub terminals : map (point_node 2) (net_pins (length p.ports) k points) ≡ terminal_nodes n l (net_number n l) (stood_in n p) k
    terminals = ap (map (point_node 2)) pins_of ∙ pins_are n l (nets_differ n l o) k class at (stood_in n p)

    -- and of its port
    port_is : point_node 3 (top column (length p.rows) k) ≡ port_node l (rows_of n p) k
    port_is =
        top_node 3 (column k) (port_row (length p.rows))
        ∙ ap (λ (m : ℕ). node (port_column m (p.width / 500) k) (port_row (length p.rows))) many_names
        ∙ ap (λ (m : ℕ). node (port_column (length (signal_ports n)) m k) (port_row (length p.rows))) (sym (columns_are n l o p are))
        ∙ ap (λ (m : ℕ). node (port_column (length (signal_ports n)) (block_columns l (rows_of n p)) k) (port_row m)) (sym (length-map p.rows (λ row. map (member n.instances) row)))
      where
        node : ℕ → ℕ → Node
        node c r = record { metal = 3; column = c; row = r }

    pub port_nodes_are : map (point_node 3) (net_port (length p.ports) k points) ≡ port_nodes l (rows_of n p) k
    port_nodes_are = elim (cases_lt k (length (port_classes n))) [
      | inl less ↦
          ap (λ (qs : List Point). map (point_node 3) (net_port (length p.ports) k qs)) (ends_with less)
          ∙ ap (map (point_node 3)) (port_first (length p.ports) k (top column (length p.rows) k) (points_in class pins) (let e = many_ports in omega (arith, less, e)))
          ∙ ap (λ (v : Node). v ∷ []) port_is
          ∙ sym (ap (λ (b : Bool). cond b (port_node l (rows_of n p) k ∷ []) []) (is_less k (length (signal_ports n)) (let e = many_names in omega (arith, less, e))))
      | inr past ↦
          ap (λ (qs : List Point). map (point_node 3) (net_port (length p.ports) k qs)) (ends_alone past)
          ∙ ap (map (point_node 3)) (port_none (length p.ports) k (points_in class pins) (let e = many_ports in omega (arith, past, e)))
          ∙ sym (ap (λ (b : Bool). cond b (port_node l (rows_of n p) k ∷ []) []) (is_not_less k (length (signal_ports n)) (let e = many_names in omega (arith, past, e))))
    ]

    -- they all lie on the grid
    few_rows : length (rows_of n p).rows ≤ 256
    few_rows = let few = are.few in let e = length-map p.rows (λ row. map (member n.instances) row) in omega (arith, few, e)

    pin_on : (q : Point) → In q (points_in class pins) → IsOnGrid q
    pin_on q i =
        let there_ : In (point_node 2 q) (terminal_nodes n l (net_number n l) (stood_in n p) k) =
        subst (λ (vs : List Node). In (point_node 2 q) vs) (pins_are n l (nets_differ n l o) k class at (stood_in n p)) (In-map (point_node 2) q (points_in class pins) i) in
        let below : k < net_count n = let e = nets_many in let h = slice_get_within (net_classes n l) k class at in omega (arith, e, h) in
        let r = terminal_inside n l (net_number n l) (rows_of n p) (stood_in n p) rows k below (point_node 2 q) there_ in
        let wide = columns_are n l o p are in
        let few = few_rows in
        let first = r.0 in
        let second = r.1 in
        record { column = omega (arith, first, wide, narrow); row = omega (arith, second, few) }

    top_on : k < length (port_classes n) → IsOnGrid (top column (length p.rows) k)
    top_on less =
        let e = top_node 2 (column k) (port_row (length p.rows)) in
        let c = ap (λ (v : Node). v.column) e in
        let d = ap (λ (v : Node). v.row) e in
        let few = are.few in
        let inside = port_inside (length (port_classes n)) (p.width / 500) k less in
        record { column = omega (arith, c, inside, narrow); row = omega (arith, d, few) }

    one_of : (x y : Point) (qs : List Point) → In x (y ∷ qs) → IsOnGrid y → ((z : Point) → In z qs → IsOnGrid z) → IsOnGrid x
    one_of x y qs here first rest = first
    one_of x y qs (there i) first rest = rest x i

    point_on : (q : Point) → In q points → IsOnGrid q
    point_on q i = elim (cases_lt k (length (port_classes n))) [
      | inl less ↦ one_of q (top column (length p.rows) k) (points_in class pins) (subst (λ (qs : List Point). In q qs) (ends_with less) i) (top_on less) pin_on
      | inr past ↦ pin_on q (subst (λ (qs : List Point). In q qs) (ends_alone past) i)
    ]

    pub sites_on : (sites : List Placed) → map (λ s. (site_of s).1) sites ≡ points → All (λ s. IsOnGrid (site_of s).1) sites
    sites_on sites e =
        All-from (λ (s : Placed). IsOnGrid (site_of s).1) sites
        (λ s i. point_on (site_of s).1 (subst (λ (qs : List Point). In (site_of s).1 qs) e (In-map (λ (s : Placed). (site_of s).1) s sites i)))
