-- All shapes of the drawing are those of the block by numbers.
use Rattle.std.proofs.Common.{◌≡◌, ℕ, suc, Bool, List, [], ◌∷◌, ◌++◌, map, length, refl, sym, ap, ◌∙◌, subst, arith, if◌then◌else◌}
use Rattle.std.specs.Prelude.{pos, ◌+ℤ◌, slice_get}
use Rattle.std.proofs.lemmas.List.{append-nil, map-append}
use Rattle.vlsi_base.specs.declared.name.Name as name
use Rattle.vlsi_base.specs.Names.{vdd, vss}
use Rattle.sym_geom.specs.declared.item.Instance.{Instance}
use Rattle.sym_geom.specs.declared.item.Item.{Item}
use Rattle.sym_geom.specs.declared.item.Item.TheVariants as item
use Rattle.sym_shapes.specs.Shape.{connector_names}
use Rattle.cell_model.specs.Layout as layout
use Rattle.cell_model.specs.Layout.{instances_of, all_instances_show}
use Rattle.cell_model.specs.Library.{Library}
use Rattle.net_meaning.specs.Netlist.{AbstractNetlist}
use Rattle.ocp_rows.specs.Placement.{Placement, supply_ports, track_ports, grid_ports, port_column, block_columns, block_width, supplies_to, net_count}
use Rattle.block_geom.specs.Figure as figure
use Rattle.block_geom.specs.Figure.{drawn_shapes}
use Rattle.block_geom.specs.Block as block
use Rattle.block_geom.specs.Tracks.{blank_lines}
use Rattle.block_geom.proofs.Lists.{line_of}
use Rattle.net_drawing.specs.Picture.{shown}
use Rattle.net_drawing.specs.Drawing.{Numbering}
use Rattle.net_drawing.proofs.Coding.{name_or}
use Rattle.net_drawing.proofs.Pieces.{Same, next, Same_append, same_drawn, Wires, Wires_append, Drawn, count_drawn, no_instances, no_names}
use Rattle.net_drawing.proofs.Shown.{instances_append, connectors_append, instances_back, instances_quiet}
use Rattle.net_drawing.proofs.Numbers.{own, call}
use Rattle.maze_geom.specs.Maze.{net_lines, maze_nets, maze_ports, row_supplies, maze_lines}
use Rattle.grid_core.specs.Routes.{NetRoutes}
use Rattle.maze_drawing.specs.Wiring.{Wiring, net_items}
use Rattle.maze_drawing.specs.Law.{IsRouted, maze_wiring, maze_items}
use Rattle.maze_drawing.proofs.Stands.{block_at, as_many}
use Rattle.maze_drawing.proofs.Nodes.{routes_of, net_drawn}
use Rattle.maze_drawing.proofs.Shown.{supplies_drawn, instances_same, ports_same, blanks_same, end_is}
use Rattle.maze_drawing.proofs.Wired.{wire_metals, via_metals}

abbrev grid_of : Library → Placement → List Item
grid_of l p = grid_ports (port_column (length p.ports) (block_columns l p)) (length p.rows) 0 p.ports

ports_still : (at : ℕ → ℕ) (rows k : ℕ) (names : List name.Name) → instances_of (grid_ports at rows k names) ≡ []
ports_still at rows k [] = refl
ports_still at rows k (m ∷ ms) = ports_still at rows (suc k) ms

ports_named : (at : ℕ → ℕ) (rows k : ℕ) (names : List name.Name) → connector_names (grid_ports at rows k names) ≡ names
ports_named at rows k [] = refl
ports_named at rows k (m ∷ ms) = ap (λ v. m ∷ v) (ports_named at rows (suc k) ms)

module _ (n : AbstractNetlist) (l : Library) (net : Numbering) (p : Placement) (instances : List Instance) (metals : ℕ) (routes : NetRoutes) (w : Wiring) (ok : IsRouted n l net p instances metals routes w) where
  -- all lines, where ports stand above the rows
  abbrev lines : List Item
  lines = supply_ports ++ (grid_of l p ++ (map item.Instance instances ++ (supplies_to (pos 1500 +ℤ block_width l p) p.rows ++ maze_wiring n p.ports w)))

  lines_are : maze_items n l p instances w ≡ lines
  lines_are =
      ap (λ (v : Bool). supply_ports ++ ((if v then track_ports 0 p.ports else grid_of l p) ++ (map item.Instance instances ++ (supplies_to (pos 1500 +ℤ block_width l p) p.rows ++ maze_wiring n p.ports w)))) ok.no_tracks

  pub wiring_drawn : Drawn (shown (own n) (call n l p.ports)) (maze_wiring n p.ports w) (maze_nets (block_at n l net p instances) (routes_of l p routes w))
  wiring_drawn =
      count_drawn (shown (own n) (call n l p.ports)) (net_count n) (λ k. net_items (slice_get p.ports k) (w k)) (net_lines (routes_of l p routes w))
      (λ k lt. net_drawn (own n) (call n l p.ports) k (slice_get p.ports k) (w k) (wire_metals n l net p instances metals routes w ok k lt) (via_metals n l net p instances metals routes w ok k lt))

  its_supplies : Drawn (shown (own n) (call n l p.ports)) (supplies_to (pos 1500 +ℤ block_width l p) p.rows) (row_supplies (block_at n l net p instances))
  its_supplies = supplies_drawn (own n) (call n l p.ports) (block_at n l net p instances) (pos 1500 +ℤ block_width l p) (end_is n l net p instances metals routes w ok) p.rows ok.rows refl

  lines_same : Same (shown (own n) (call n l p.ports)) lines (maze_lines (block_at n l net p instances) (routes_of l p routes w))
  lines_same =
      let s = shown (own n) (call n l p.ports) in
      let b = block_at n l net p instances in
      let r = routes_of l p routes w in
      next (λ k. refl) (next (λ k. refl)
      (Same_append s (grid_of l p) _ (maze_ports b r) _ (ports_same n l net p instances metals routes w ok 0 p.ports (λ j. j) (λ j m h. (omega arith, ap name_or h)))
      (Same_append s (map item.Instance instances) _ (blank_lines b) _ its_blanks
      (Same_append s (supplies_to (pos 1500 +ℤ block_width l p) p.rows) (maze_wiring n p.ports w) (row_supplies b) (maze_nets b r) its_supplies.same wiring_drawn.same))))
    where
      its_blanks : Same (shown (own n) (call n l p.ports)) (map item.Instance instances) (blank_lines (block_at n l net p instances))
      its_blanks =
          subst (λ k. Same (shown (own n) (call n l p.ports)) (map item.Instance instances) (figure.up_to k (λ i. record { net = block.PowerNet figure.Vss; line = figure.Blank } ∷ [])))
          (as_many n l net p instances metals routes w ok) (blanks_same n l net p instances metals routes w ok instances)

  rest_wires : Wires (supplies_to (pos 1500 +ℤ block_width l p) p.rows ++ maze_wiring n p.ports w)
  rest_wires = Wires_append (supplies_to (pos 1500 +ℤ block_width l p) p.rows) (maze_wiring n p.ports w) its_supplies.wires wiring_drawn.wires

  line_instances : instances_of lines ≡ instances
  line_instances =
      let rest = supplies_to (pos 1500 +ℤ block_width l p) p.rows ++ maze_wiring n p.ports w in
      instances_append (grid_of l p) (map item.Instance instances ++ rest)
      ∙ ap (λ v. v ++ instances_of (map item.Instance instances ++ rest)) (ports_still (port_column (length p.ports) (block_columns l p)) (length p.rows) 0 p.ports)
      ∙ instances_append (map item.Instance instances) rest
      ∙ ap (λ v. v ++ instances_of rest) (instances_back instances)
      ∙ ap (λ v. instances ++ v) (no_instances rest rest_wires)
      ∙ append-nil instances

  pub its_instances : instances_of (maze_items n l p instances w) ≡ instances
  its_instances = ap instances_of lines_are ∙ line_instances

  pub its_names : connector_names (maze_items n l p instances w) ≡ vss ∷ (vdd ∷ p.ports)
  its_names =
      let rest = supplies_to (pos 1500 +ℤ block_width l p) p.rows ++ maze_wiring n p.ports w in
      ap connector_names lines_are
      ∙ ap (λ v. vss ∷ (vdd ∷ v))
      (connectors_append (grid_of l p) (map item.Instance instances ++ rest)
      ∙ ap (λ v. v ++ connector_names (map item.Instance instances ++ rest)) (ports_named (port_column (length p.ports) (block_columns l p)) (length p.rows) 0 p.ports)
      ∙ ap (λ v. p.ports ++ v) (connectors_append (map item.Instance instances) rest ∙ ap (λ v. v ++ connector_names rest) (instances_quiet instances) ∙ no_names rest rest_wires)
      ∙ append-nil p.ports)

  pub its_shapes : layout.shapes (maze_items n l p instances w) l ≡ map (shown (own n) (call n l p.ports)) (block.shapes (block_at n l net p instances) (maze_lines (block_at n l net p instances) (routes_of l p routes w)))
  its_shapes =
      let s = shown (own n) (call n l p.ports) in
      let b = block_at n l net p instances in
      let ts = maze_lines b (routes_of l p routes w) in
      ap (λ v. layout.shapes v l) lines_are
      ∙ ap (λ v. v ++ all_instances_show l (instances_of lines)) (same_drawn s lines ts lines_same 0)
      ∙ ap (λ v. map (shown (own n) (call n l p.ports)) (drawn_shapes 0 (map line_of ts)) ++ v) (ap (all_instances_show l) line_instances ∙ instances_same n l net p instances metals routes w ok (as_many n l net p instances metals routes w ok))
      ∙ sym (map-append s (drawn_shapes 0 (map line_of ts)) (block.instance_shapes b))
