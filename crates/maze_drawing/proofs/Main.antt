-- The drawing of routes is right.
use Rattle.std.proofs.Common.{◌≡◌, ℕ, suc, List, [], ◌∷◌, ◌++◌, map, refl, sym, ap, ◌∙◌, subst}
use Rattle.std.specs.Prelude.{flat_map}
use Rattle.std.proofs.lemmas.List.{append-nil}
use Rattle.vlsi_base.specs.Member as member
use Rattle.vlsi_base.specs.Names.{vdd, vss}
use Rattle.sym_geom.specs.declared.item.Instance.{Instance}
use Rattle.sym_geom.specs.declared.item.Reference.{Reference}
use Rattle.sym_geom.specs.declared.item.Item.{Item}
use Rattle.sym_geom.specs.declared.item.Item.TheVariants as item
use Rattle.sym_shapes.specs.Shape as shape
use Rattle.sym_shapes.specs.Shape.{connector_names, drawn_from, item_shapes}
use Rattle.sym_shapes.specs.Joined as joined
use Rattle.cell_model.specs.Access.{count_to}
use Rattle.cell_model.specs.Layout as layout
use Rattle.cell_model.specs.Layout.{all_instances_show}
use Rattle.cell_model.specs.Library.{Library}
use Rattle.net_meaning.specs.Netlist.{AbstractNetlist}
use Rattle.net_meaning.specs.Breaches as breaches
use Rattle.ocp_rows.specs.Placement.{Placement, IsPlaced, block_box, net_count}
use Rattle.block_geom.specs.Figure.{Shape, In}
use Rattle.block_geom.specs.Block as block
use Rattle.block_geom.specs.Block.{PowerNet, Exists, net_of, shapes}
use Rattle.block_geom.proofs.TracksAll.{IsKnown}
use Rattle.net_drawing.specs.Picture.{AreApart, shown, terminal_of}
use Rattle.net_drawing.specs.Drawing.{Numbering}
use Rattle.net_drawing.proofs.Bridge.{terminals_up, terminals_down, no_width, no_gap}
use Rattle.net_drawing.proofs.Numbers.{own, call}
use Rattle.net_drawing.proofs.Pieces.{wires_all}
use Rattle.net_drawing.proofs.Shown.{instances_append, connectors_append}
use Rattle.maze_geom.specs.Maze.{maze_lines}
use Rattle.maze_geom.proofs.Joins.{maze_known, maze_clean, keeps_nets, maze_join}
use Rattle.grid_core.specs.declared.grid.Node.{Node}
use Rattle.grid_core.specs.Routes.{NetRoutes}
use Rattle.grid_core.specs.Trees.{AreWhole}
use Rattle.maze_drawing.specs.Wiring.{Wiring}
use Rattle.maze_drawing.specs.Points.{net_nodes}
use Rattle.maze_drawing.specs.Law.{IsRouted, maze_wiring, maze_items, mark, marks, part_items, RoutesKeepNets, MarkedRoutesKeepNets, RoutesShowNetlist, RoutesGiveNetlist}
use Rattle.net_drawing.proofs.Untied.{untied_is_extracted}
use Rattle.net_drawing.proofs.Showing.{owners_apart, names_apart, IsFigureOf, JoinsAll, keeps, shows}
use Rattle.maze_drawing.proofs.Stands.{put_of, block_at, sound}
use Rattle.maze_drawing.proofs.Nodes.{routes_of}
use Rattle.maze_drawing.proofs.Wired.{wired}
use Rattle.maze_drawing.proofs.Lines.{wiring_drawn, its_instances, its_names, its_shapes}
use Rattle.maze_drawing.proofs.Whole.{complete}

-- marks show nothing
data Quiet : List Item → Type 0 where
  quiet_end : Quiet []
  quiet : {r : Reference} {rest : List Item} → Quiet rest → Quiet (item.Reference r ∷ rest)

quiet_append : (a b : List Item) → Quiet a → Quiet b → Quiet (a ++ b)
quiet_append a b quiet_end h = h
quiet_append a b (quiet {rest = rest} g) h = quiet (quiet_append rest b g h)

flat_quiet : {A : Type 0} (f : A → List Item) (xs : List A) → ((x : A) → Quiet (f x)) → Quiet (flat_map f xs)
flat_quiet f [] h = quiet_end
flat_quiet f (x ∷ xs) h = quiet_append (f x) (flat_map f xs) (h x) (flat_quiet f xs h)

quiet_names : (more : List Item) → Quiet more → connector_names more ≡ []
quiet_names more quiet_end = refl
quiet_names more (quiet {rest = rest} h) = quiet_names rest h

none_of : (more : List Item) → Quiet more → layout.instances_of more ≡ []
none_of more quiet_end = refl
none_of more (quiet {rest = rest} h) = none_of rest h

quiet_instances : (items more : List Item) → Quiet more → layout.instances_of (items ++ more) ≡ layout.instances_of items
quiet_instances items more h = instances_append items more ∙ ap (λ v. layout.instances_of items ++ v) (none_of more h) ∙ append-nil (layout.instances_of items)

nothing_drawn : (k : ℕ) (more : List Item) → Quiet more → drawn_from k more ≡ []
nothing_drawn k more quiet_end = refl
nothing_drawn k more (quiet {rest = rest} h) = nothing_drawn (suc k) rest h

quiet_drawn : (k : ℕ) (items more : List Item) → Quiet more → drawn_from k (items ++ more) ≡ drawn_from k items
quiet_drawn k [] more h = nothing_drawn k more h
quiet_drawn k (one ∷ rest) more h = ap (λ v. item_shapes k one ++ v) (quiet_drawn (suc k) rest more h)

module _ (n : AbstractNetlist) (l : Library) (net : Numbering) (p : Placement) (instances : List Instance) (metals : ℕ) (routes : NetRoutes) (w : Wiring) (ok : IsRouted n l net p instances metals routes w) where
  abbrev ys : List Shape
  ys = shapes (block_at n l net p instances) (maze_lines (block_at n l net p instances) (routes_of l p routes w))

  known : (s : Shape) → In s ys → IsKnown (block_at n l net p instances) s
  known s h = maze_known (block_at n l net p instances) (routes_of l p routes w) (sound n l net p instances metals routes w ok) (wired n l net p instances metals routes w ok) s h

  apart : AreApart (block_at n l net p instances) (own n) (call n l p.ports)
  apart = record { owners = owners_apart n l net p.ports (put_of l p instances) ok.nets; names = names_apart n l net p.ports (put_of l p instances) ok.nets }

  -- lines that show these shapes, instances and connectors
  pub record AreShown (items : List Item) : Type 0 where
    pub names : connector_names items ≡ vss ∷ (vdd ∷ p.ports)
    pub stood : layout.instances_of items ≡ instances
    pub shapes : layout.shapes items l ≡ map (shown (own n) (call n l p.ports)) ys

  up : (items : List Item) → AreShown items → (t u : block.Terminal) → block.AreJoined ys t u → joined.AreJoined (layout.shapes items l) (terminal_of (own n) (call n l p.ports) t) (terminal_of (own n) (call n l p.ports) u)
  up items said t u j =
      subst (λ (xs : List shape.Shape). joined.AreJoined xs (terminal_of (own n) (call n l p.ports) t) (terminal_of (own n) (call n l p.ports) u)) (sym said.shapes)
      (terminals_up (block_at n l net p instances) (own n) (call n l p.ports) apart ys known t u j)

  down : (items : List Item) → AreShown items → (t u : block.Terminal) → Exists (block_at n l net p instances) t → Exists (block_at n l net p instances) u
      → joined.AreJoined (layout.shapes items l) (terminal_of (own n) (call n l p.ports) t) (terminal_of (own n) (call n l p.ports) u) → block.AreJoined ys t u
  down items said t u ht hu j =
      terminals_down (block_at n l net p instances) (own n) (call n l p.ports) apart ys known t u ht hu
      (subst (λ (xs : List shape.Shape). joined.AreJoined xs (terminal_of (own n) (call n l p.ports) t) (terminal_of (own n) (call n l p.ports) u)) said.shapes j)

  figure_is : (items : List Item) → AreShown items → IsFigureOf items n l net p.ports (put_of l p instances)
  figure_is items said =
      let k = keeps_nets (block_at n l net p instances) (routes_of l p routes w) (sound n l net p instances metals routes w ok) (wired n l net p instances metals routes w ok) in
      record {
        names = said.names;
        members = sym ok.listed ∙ ap (map (λ (i : Instance). record { name = i.name; model = i.model })) (sym said.stood);
        only = λ t u ht hu j. k.only t u ht hu (down items said t u ht hu j);
        supplies = λ t u s ht hu e f. up items said t u (k.supplies t u s ht hu e f);
      }

  clean : (items : List Item) → AreShown items → breaches.Breaches items l []
  clean items said =
      let c = maze_clean (block_at n l net p instances) (routes_of l p routes w) (sound n l net p instances metals routes w ok) (wired n l net p instances metals routes w ok) in
      record {
        narrow = [];
        near = [];
        widths = subst (λ (xs : List shape.Shape). member.Picks breaches.IsNarrow xs []) (sym said.shapes)
            (no_width (block_at n l net p instances) (own n) (call n l p.ports) apart ys known c);
        gaps = subst (λ (xs : List shape.Shape). member.Picks (λ (q : shape.Shape × shape.Shape). breaches.AreTooNear xs q.0 q.1) (member.pairs xs) []) (sym said.shapes)
            (no_gap (block_at n l net p instances) (own n) (call n l p.ports) apart ys known c);
        listed = refl;
      }

  lines_said : AreShown (maze_items n l p instances w)
  lines_said = record {
    names = its_names n l net p instances metals routes w ok;
    stood = its_instances n l net p instances metals routes w ok;
    shapes = its_shapes n l net p instances metals routes w ok;
  }

  -- with marks
  marks_quiet : Quiet (marks n l net p instances)
  marks_quiet = flat_quiet (λ k. map (mark k) (net_nodes n l net p instances k)) (count_to (net_count n)) (λ k. marks_of k (net_nodes n l net p instances k))
    where
      marks_of : (k : ℕ) (xs : List Node) → Quiet (map (mark k) xs)
      marks_of k [] = quiet_end
      marks_of k (x ∷ xs) = quiet (marks_of k xs)

  part_said : AreShown (part_items n l net p instances w)
  part_said =
      let items = maze_items n l p instances w in
      let more = marks n l net p instances in
      record {
        names = connectors_append items more ∙ ap (λ v. connector_names items ++ v) (quiet_names more marks_quiet) ∙ append-nil (connector_names items) ∙ lines_said.names;
        stood = quiet_instances items more marks_quiet ∙ lines_said.stood;
        shapes = ap (λ v. v ++ all_instances_show l (layout.instances_of (items ++ more))) (quiet_drawn 0 items more marks_quiet)
            ∙ ap (λ v. drawn_from 0 items ++ all_instances_show l v) (quiet_instances items more marks_quiet)
            ∙ lines_said.shapes;
      }

  placed : IsPlaced (block_box n l p) (maze_items n l p instances w) n l p
  placed = record {
    order = ok.nets.order;
    ports = ok.nets.port_names;
    each_once = ok.each_once;
    instances = instances;
    rows = ok.stands;
    wiring = maze_wiring n p.ports w;
    wires = wires_all (maze_wiring n p.ports w) (wiring_drawn n l net p instances metals routes w ok).wires;
    lines = refl;
    box = refl;
  }

  all_joined : AreWhole (net_nodes n l net p instances) (net_count n) routes → JoinsAll (maze_items n l p instances w) n l net p.ports (put_of l p instances)
  all_joined whole t u ht hu e =
      let j = maze_join (block_at n l net p instances) (routes_of l p routes w) (sound n l net p instances metals routes w ok) (wired n l net p instances metals routes w ok) (complete n l net p instances metals routes w ok whole) in
      up (maze_items n l p instances w) lines_said t u (j.all t u ht hu e)

pub routes_keep_nets : RoutesKeepNets
routes_keep_nets n l net p instances metals routes w ok =
    let said = lines_said n l net p instances metals routes w ok in (
      keeps n l net p.ports (put_of l p instances) ok.nets (maze_items n l p instances w) (figure_is n l net p instances metals routes w ok (maze_items n l p instances w) said),
      clean n l net p instances metals routes w ok (maze_items n l p instances w) said,
      placed n l net p instances metals routes w ok,
    )

pub marked_routes_keep_nets : MarkedRoutesKeepNets
marked_routes_keep_nets n l net p instances metals routes w ok =
    let said = part_said n l net p instances metals routes w ok in (
      keeps n l net p.ports (put_of l p instances) ok.nets (part_items n l net p instances w) (figure_is n l net p instances metals routes w ok (part_items n l net p instances w) said),
      clean n l net p instances metals routes w ok (part_items n l net p instances w) said,
    )

pub routes_show_netlist : RoutesShowNetlist
routes_show_netlist n l net p instances metals routes w ok whole =
    shows n l net p.ports (put_of l p instances) ok.nets (maze_items n l p instances w)
    (figure_is n l net p instances metals routes w ok (maze_items n l p instances w) (lines_said n l net p instances metals routes w ok)) (all_joined n l net p instances metals routes w ok whole)

pub routes_give_netlist : RoutesGiveNetlist
routes_give_netlist n l net p instances metals routes w ok whole plain =
    untied_is_extracted (maze_items n l p instances w) l n (routes_show_netlist n l net p instances metals routes w ok whole) plain
