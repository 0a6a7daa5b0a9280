-- The figure that is drawn of a netlist in rows.
use Rattle.std.proofs.Common.{◌≡◌, ℕ, ◌+◌, ◌*◌, ◌<◌, ◌≤◌, ◌^◌, List, [], ◌++◌, map, length, Option, Some, sym, ap, ap₂, subst, ◌∙◌, arith, append_assoc, if◌then◌else◌}
use Rattle.std.specs.Prelude.{ℤ, pos, ◌+ℤ◌, ◌/◌, slice_get, flat_map, filter}
use Rattle.std.specs.Int.{int_max}
use Rattle.std.proofs.lemmas.Int.{ints, int_max_is}
use Rattle.std.proofs.lemmas.Nat.{le-div}
use Rattle.std.proofs.lemmas.List.{length-map}
use Rattle.vlsi_base.specs.declared.name.Name.{Name}
use Rattle.vlsi_base.specs.Names.{scalar}
use Rattle.sym_geom.specs.declared.grid.TheConstants.{PITCH, ROW_HEIGHT, FIRST_CELL_X}
use Rattle.sym_geom.specs.declared.rect.Rect.{Rect}
use Rattle.sym_geom.specs.declared.item.Item.{Item}
use Rattle.sym_geom.specs.declared.item.Item.TheVariants as item
use Rattle.ap_io.specs.declared.figure.Figure.{Figure}
use Rattle.cell_model.specs.Access.{count_to}
use Rattle.cell_model.specs.Library.{Library}
use Rattle.net_core.specs.Places.{Stands}
use Rattle.net_core.specs.Netlist.{Netlist as InMemory}
use Rattle.net_meaning.specs.Netlist.{Member, AbstractNetlist}
use Rattle.net_meaning.specs.Breaches.{Breaches}
use Rattle.net_right.specs.View.{member_of, IsSeenAs}
use Rattle.net_right.proofs.Terminals.{seen_ports, seen_instances}
use Rattle.ocp_rows.specs.Placement.{IsPlaced, natural, rows_width, block_width, block_columns, block_box, supply_ports, placed_ports, grid_ports, port_column, supplies_to, net_count}
use Rattle.ocp_place.specs.Nets.{is_signal, signal_ports, net_number}
use Rattle.ocp_place.specs.Placed.{InRow, IsRowPlacementOf, rows_of, stood_in}
use Rattle.ocp_place.specs.Stood.{named_rows, stood_all}
use Rattle.ocp_place.proofs.Clean.{rect_is}
use Rattle.ocp_place.proofs.Classes.{known, known_seen}
use Rattle.net_drawing.proofs.Coding.{get_there}
use Rattle.net_drawing.specs.Shown.{KeepsNetlist, ShowsNetlist}
use Rattle.grid_core.specs.declared.grid.Node.{Node}
use Rattle.grid_core.specs.Routes.{NetRoutes}
use Rattle.maze_drawing.specs.Wiring.{IsWiringOf, net_items}
use Rattle.maze_drawing.specs.Points.{has_two, port_nodes, net_nodes, via_nodes}
use Rattle.maze_drawing.specs.Law.{IsRouted, RoutesKeepNets, RoutesShowNetlist, maze_wiring, maze_items, mark, marks}
use Rattle.maze_nets.specs.declared.points.NetPoints.{NetPoints}
use Rattle.maze_nets.specs.Nets.{port_node}
use Rattle.maze_wires.specs.declared.wires.NetWires.{NetWires}
use Rattle.ocp_grid.specs.Points.{ArePointsIn}
use Rattle.ocp_grid.specs.Law.{PlacementsAreInRows}
use Rattle.route_draw.specs.Pieces.{signal_names}
use Rattle.route_draw.specs.GridPieces.{stood_lines, supplies_over, via_points, wiring_of, wiring_in, AreWired, numbered_lines, wires_of, marks_of, wired_lines, mark_lines, bare_lines, block_lines}
use Rattle.route_draw.specs.Grid.{AreDrawable, placed_items, IsDrawnInGrid, IsMarked}
use Rattle.route_draw.proofs.Joins.{counted}
use Rattle.route_draw.proofs.Lists.{by_number}
use Rattle.route_draw.proofs.Rows.{supplies_are}

-- a block has one column more than ports at least
pub wide_columns : (width : ℕ) (rows : ℤ) (ports : ℕ) → pos width ≡ int_max rows (pos (PITCH * (ports + 1))) → ports < width / PITCH
wide_columns width rows ports e =
    let a = int_max_is rows (pos (500 * (ports + 1))) in
    let b : (ports + 1) * 500 ≤ width = omega (arith, ints) in
    let c : ports + 1 ≤ width / 500 = le-div (ports + 1) width 500 (omega arith) b in
    omega (arith, c)

-- lines by numbers of as many things as there are nets
all_numbered : {A : Type 0} (f : ℕ → A → List Item) (g : ℕ → List Item) (many : ℕ) (xs : List A) → length xs ≡ many
    → ((i : ℕ) (x : A) → Stands xs i x → g i ≡ f i x) → flat_map g (count_to many) ≡ numbered_lines f 0 xs
all_numbered f g many xs e each =
    ap (λ (c : ℕ). flat_map g (count_to c)) (sym e)
    ∙ counted g (length xs)
    ∙ by_number f g 0 xs (λ i x s.
    let z : i ≡ 0 + i = omega arith in
    subst (λ (j : ℕ). g j ≡ f j x) z (each i x s))

-- lines that stand behind all others
behind : (a b c d e : List Item) → (a ++ (b ++ (c ++ d))) ++ e ≡ a ++ (b ++ (c ++ (d ++ e)))
behind a b c d e =
    append_assoc a (b ++ (c ++ d)) e ∙ ap (λ (xs : List Item). a ++ xs) (append_assoc b (c ++ d) e) ∙ ap (λ (xs : List Item). a ++ (b ++ xs)) (append_assoc c d e)

pub bare_and_wired : (n : InMemory) (p : InRow) (nets : List NetWires) → block_lines n p nets ≡ bare_lines (signal_names n.ports) n p ++ wired_lines 0 (signal_names n.ports) nets
bare_and_wired n p nets =
    let names = signal_names n.ports in
    sym (behind supply_ports (grid_ports (port_column (length names) (p.width / PITCH)) (length p.rows) 0 names) (stood_lines n.instances p.starts p.row_numbers)
    (supplies_over p.width (length p.rows)) (wired_lines 0 names nets))

module _ (l : Library) (n : InMemory) (p : InRow) (placed : IsRowPlacementOf l n p) where
  -- the netlist of layouts that it is known by
  abbrev its_netlist : AbstractNetlist
  its_netlist = known n

  its_seen : IsSeenAs n its_netlist
  its_seen = known_seen n placed.drawable.sound

  members_many : length its_netlist.instances ≡ length n.instances
  members_many = ap length (seen_instances n its_netlist its_seen) ∙ length-map n.instances member_of

  pub starts_many : length p.starts ≡ length n.instances
  starts_many = (placed.rows its_netlist its_seen).starts ∙ members_many

  pub row_numbers_many : length p.row_numbers ≡ length n.instances
  row_numbers_many = (placed.rows its_netlist its_seen).row_numbers ∙ members_many

  pub rows_few : length p.rows ≤ 256
  rows_few = (placed.rows its_netlist its_seen).few

  names_are : (k : AbstractNetlist) → IsSeenAs n k → signal_names n.ports ≡ signal_ports k
  names_are k seen = sym (ap (filter is_signal) (seen_ports n k seen))

  pub names_wide : length (signal_names n.ports) < p.width / PITCH
  names_wide =
      let rows = placed.rows its_netlist its_seen in
      let e = ap length (names_are its_netlist its_seen) in
      let a = wide_columns p.width (rows_width l (named_rows its_netlist.instances p.rows)) (length (signal_ports its_netlist)) rows.width in
      omega (arith, a, e)

  -- the lines without those of nets
  pub bare_are : (k : AbstractNetlist) → IsSeenAs n k → bare_lines (signal_names n.ports) n p ≡ placed_items k l (rows_of k p) (stood_in k p)
  bare_are k seen =
      let rows = placed.rows k seen in
      let names = signal_ports k in
      let count = length names in
      let columns : p.width / PITCH ≡ block_columns l (rows_of k p) = ap (λ (w : ℤ). natural w / PITCH) rows.width in
      let many : length p.rows ≡ length (named_rows k.instances p.rows) = sym (length-map p.rows _) in
      let stand : stood_lines n.instances p.starts p.row_numbers ≡ map item.Instance (stood_in k p) =
      ap (λ (ms : List Member). map item.Instance (stood_all ms p.starts p.row_numbers)) (sym (seen_instances n k seen)) in
      let end : pos (FIRST_CELL_X + p.width) ≡ (pos FIRST_CELL_X +ℤ block_width l (rows_of k p)) = ap (λ (w : ℤ). pos FIRST_CELL_X +ℤ w) rows.width in
      let supplied : supplies_over p.width (length p.rows) ≡ supplies_to (pos FIRST_CELL_X +ℤ block_width l (rows_of k p)) (named_rows k.instances p.rows) =
      ap (supplies_over p.width) many ∙ sym (supplies_are p.width (named_rows k.instances p.rows))
      ∙ ap (λ (z : ℤ). supplies_to z (named_rows k.instances p.rows)) end in
      let ports : grid_ports (port_column count (p.width / PITCH)) (length p.rows) 0 names
      ≡ grid_ports (port_column count (block_columns l (rows_of k p))) (length (named_rows k.instances p.rows)) 0 names =
      ap (λ (c : ℕ). grid_ports (port_column count c) (length p.rows) 0 names) columns
      ∙ ap (λ (r : ℕ). grid_ports (port_column count (block_columns l (rows_of k p))) r 0 names) many in
      ap (λ (ns : List Name). bare_lines ns n p) (names_are k seen)
      ∙ ap (λ (is : List Item). supply_ports ++ (is ++ (stood_lines n.instances p.starts p.row_numbers ++ supplies_over p.width (length p.rows)))) ports
      ∙ ap₂ (λ (is js : List Item). supply_ports ++ (grid_ports (port_column count (block_columns l (rows_of k p))) (length (named_rows k.instances p.rows)) 0 names ++ (is ++ js)))
      stand supplied

  -- the box
  pub box_is : (bounds : Rect) → bounds.x1 ≡ pos 0 → bounds.y1 ≡ pos 0 → bounds.x2 ≡ pos (FIRST_CELL_X + PITCH + p.width) → bounds.y2 ≡ pos (ROW_HEIGHT * length p.rows + 2 * PITCH)
      → (k : AbstractNetlist) → IsSeenAs n k → bounds ≡ block_box k l (rows_of k p)
  box_is bounds x1 y1 x2 y2 k seen =
      let wide : pos (FIRST_CELL_X + PITCH + p.width) ≡ (pos (FIRST_CELL_X + PITCH) +ℤ block_width l (rows_of k p)) =
      ap (λ (z : ℤ). pos (FIRST_CELL_X + PITCH) +ℤ z) (placed.rows k seen).width in
      let high : pos (ROW_HEIGHT * length p.rows + 2 * PITCH) ≡ pos (ROW_HEIGHT * length (named_rows k.instances p.rows) + 2 * PITCH) =
      ap (λ (r : ℕ). pos (ROW_HEIGHT * r + 2 * PITCH)) (sym (length-map p.rows _)) in
      rect_is bounds (pos 0) (pos 0) (pos (FIRST_CELL_X + PITCH) +ℤ block_width l (rows_of k p)) (pos (ROW_HEIGHT * length (named_rows k.instances p.rows) + 2 * PITCH))
      x1 y1 (x2 ∙ wide) (y2 ∙ high)

  module _ (points : List NetPoints) (are : ArePointsIn l n p points) where
    -- there are fewer nets than 32 bits can number
    pub points_few : length p.ends < 2 ^ 32 → length points < 2 ^ 32
    points_few low =
        let a = (are its_netlist its_seen).many in
        let b = (placed.rows its_netlist its_seen).many in
        omega (arith, low, a, b)

    -- the points of a net
    points_are : (k : AbstractNetlist) → IsSeenAs n k → (j : ℕ) (net : NetPoints) → Stands points j net
        → net_nodes k l (net_number k l) (rows_of k p) (stood_in k p) j ≡ port_node net.port ++ net.terminals.items
    points_are k seen j net s =
        let r = (are k seen).each j net s in
        sym (ap (λ (qs : List Node). qs ++ net.terminals.items) r.port ∙ ap (λ (qs : List Node). port_nodes l (rows_of k p) j ++ qs) r.terminals)

    via_are : (k : AbstractNetlist) → IsSeenAs n k → (j : ℕ) (net : NetPoints) → Stands points j net
        → via_points net ≡ via_nodes k l (net_number k l) (rows_of k p) (stood_in k p) j
    via_are k seen j net s =
        let r = (are k seen).each j net s in
        ap (λ (qs : List Node). if has_two qs then net.terminals.items else []) (sym (points_are k seen j net s))
        ∙ ap (λ (qs : List Node). if has_two (net_nodes k l (net_number k l) (rows_of k p) (stood_in k p) j) then qs else []) r.terminals

    -- the marks
    pub marks_are : (k : AbstractNetlist) → IsSeenAs n k → mark_lines 0 points ≡ marks k l (net_number k l) (rows_of k p) (stood_in k p)
    marks_are k seen =
        sym (all_numbered marks_of (λ j. map (mark j) (net_nodes k l (net_number k l) (rows_of k p) (stood_in k p) j)) (net_count k) points (are k seen).many
        (λ j net s. ap (map (mark j)) (points_are k seen j net s)))

    pub marked : (plain f : Figure) → f.name ≡ plain.name → f.bounds ≡ plain.bounds → f.items ≡ plain.items ++ mark_lines 0 points → IsMarked l n p plain f
    marked plain f name box items = record {
      name = name;
      box = box;
      lines = λ k seen. items ∙ ap (λ (is : List Item). plain.items ++ is) (marks_are k seen);
    }

    module _ (routes : NetRoutes) (nets : List NetWires) (wired : AreWired routes points nets) where
      -- the wiring in memory is that of the routes
      wiring_is : (k : AbstractNetlist) → IsSeenAs n k → (j : ℕ) → j < net_count k
          → IsWiringOf (routes j) (via_nodes k l (net_number k l) (rows_of k p) (stood_in k p) j) (wiring_in nets j)
      wiring_is k seen j low =
          let many = (are k seen).many in
          let there = get_there points j (omega (arith, low, many)) in
          subst (λ (qs : List Node). IsWiringOf (routes j) qs (wiring_in nets j))
          (via_are k seen j there.0 there.1)
          (wired.each j there.0 there.1)

      wires_are : (k : AbstractNetlist) → IsSeenAs n k → maze_wiring k (signal_ports k) (wiring_in nets) ≡ wired_lines 0 (signal_ports k) nets
      wires_are k seen =
          all_numbered (wires_of (signal_ports k)) (λ j. net_items (slice_get (signal_ports k) j) (wiring_in nets j)) (net_count k) nets (wired.many ∙ (are k seen).many)
          (λ j net s. ap (λ (o : Option NetWires). net_items (slice_get (signal_ports k) j) (wiring_of o)) s)

      -- all lines together
      lines_are : (k : AbstractNetlist) → IsSeenAs n k → block_lines n p nets ≡ maze_items k l (rows_of k p) (stood_in k p) (wiring_in nets)
      lines_are k seen =
          let names = signal_names n.ports in
          let wired : wired_lines 0 names nets ≡ maze_wiring k (signal_ports k) (wiring_in nets) =
          ap (λ (ns : List Name). wired_lines 0 ns nets) (names_are k seen) ∙ sym (wires_are k seen) in
          bare_and_wired n p nets
          ∙ ap₂ (λ (xs ys : List Item). xs ++ ys) (bare_are k seen) wired
          ∙ behind supply_ports (placed_ports l (rows_of k p)) (map item.Instance (stood_in k p))
          (supplies_to (pos FIRST_CELL_X +ℤ block_width l (rows_of k p)) (named_rows k.instances p.rows)) (maze_wiring k (signal_ports k) (wiring_in nets))

      module _ (in_rows : PlacementsAreInRows) (keep : RoutesKeepNets) (show : RoutesShowNetlist) (drawable : AreDrawable l n p routes) where
        routed : (k : AbstractNetlist) → IsSeenAs n k → IsRouted k l (net_number k l) (rows_of k p) (stood_in k p) drawable.metals routes (wiring_in nets)
        routed k seen =
            let r = in_rows l n p k placed seen in
            record {
              nets = r.nets;
              no_tracks = r.no_tracks;
              rows = r.rows;
              each_once = r.each_once;
              stands = r.stands;
              listed = r.listed;
              few_metals = drawable.few;
              trees = drawable.trees k seen;
              drawn = wiring_is k seen;
            }

        pub drawn_in_grid : (name : Name) (bounds : Rect) (items : List Item) → name ≡ scalar n.name → bounds.x1 ≡ pos 0 → bounds.y1 ≡ pos 0
            → bounds.x2 ≡ pos (FIRST_CELL_X + PITCH + p.width) → bounds.y2 ≡ pos (ROW_HEIGHT * length p.rows + 2 * PITCH) → items ≡ block_lines n p nets
            → IsDrawnInGrid l n p routes (record { name = Some name; bounds = bounds; items = items })
        drawn_in_grid name bounds items named x1 y1 x2 y2 is = record {
          named = ap (λ (x : Name). Some x) named;
          wiring = wiring_in nets;
          drawn = wiring_is;
          lines = lines;
          box = box;
          keeps = λ k seen. subst (λ (xs : List Item). KeepsNetlist xs l k) (sym (lines k seen)) (right k seen).0;
          lawful = subst (λ (xs : List Item). Breaches xs l []) (sym (lines its_netlist its_seen)) (right its_netlist its_seen).1;
          placed = λ k seen.
              subst (λ (r : Rect). IsPlaced r items k l (rows_of k p)) (sym (box k seen))
              (subst (λ (xs : List Item). IsPlaced (block_box k l (rows_of k p)) xs k l (rows_of k p)) (sym (lines k seen)) (right k seen).2);
          shows = λ k seen whole.
              subst (λ (xs : List Item). ShowsNetlist xs l k) (sym (lines k seen))
              (show k l (net_number k l) (rows_of k p) (stood_in k p) drawable.metals routes (wiring_in nets) (routed k seen) whole);
        } where
          lines : (k : AbstractNetlist) → IsSeenAs n k → items ≡ maze_items k l (rows_of k p) (stood_in k p) (wiring_in nets)
          lines k seen = is ∙ lines_are k seen

          right : (k : AbstractNetlist) → IsSeenAs n k → KeepsNetlist (maze_items k l (rows_of k p) (stood_in k p) (wiring_in nets)) l k
              × Breaches (maze_items k l (rows_of k p) (stood_in k p) (wiring_in nets)) l []
              × IsPlaced (block_box k l (rows_of k p)) (maze_items k l (rows_of k p) (stood_in k p) (wiring_in nets)) k l (rows_of k p)
          right k seen = keep k l (net_number k l) (rows_of k p) (stood_in k p) drawable.metals routes (wiring_in nets) (routed k seen)

          box : (k : AbstractNetlist) → IsSeenAs n k → bounds ≡ block_box k l (rows_of k p)
          box k seen = box_is bounds x1 y1 x2 y2 k seen
