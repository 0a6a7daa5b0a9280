-- Where no tree lacks a point, ways lead from terminal to terminal of each net.
use Rattle.std.proofs.Common.{◌≡◌, ℕ, ◌+◌, ◌-◌, ◌<◌, ◌≤◌, ◌⊎◌, inl, inr, ⊎_elim, true, List, map, length, Option, Some, refl, sym, ap, ◌∙◌, subst, arith, length-append}
use Rattle.std.specs.Prelude.{slice_get}
use Rattle.std.proofs.lemmas.Bool.{cases_lt}
use Rattle.vlsi_base.specs.Member.{In, here, there}
use Rattle.machine_core.specs.Machine.{names_of}
use Rattle.sym_geom.specs.declared.item.Instance.{Instance}
use Rattle.cell_model.specs.Cell.{pin_ports}
use Rattle.cell_model.specs.Library.{Library, cell_of}
use Rattle.net_meaning.specs.Netlist.{AbstractNetlist}
use Rattle.ocp_rows.specs.Placement.{Placement, net_count}
use Rattle.block_geom.specs.Figure as figure
use Rattle.block_geom.specs.Figure.{Power, Bit}
use Rattle.block_geom.specs.Block.{Net, PowerNet, Signal, Terminal, AtPort, AtPin, Exists, net_of, pin_column, pin_row}
use Rattle.block_geom.proofs.Lists.{In_map}
use Rattle.net_drawing.specs.Drawing.{Numbering}
use Rattle.net_drawing.proofs.Coding.{In_list}
use Rattle.net_drawing.proofs.Cells.{In_first, In_last}
use Rattle.maze_geom.specs.Maze as maze
use Rattle.maze_geom.specs.Maze.{IsStep, along, up, down, IsWay, stay, step, IsAttachedAt, port_attached, pin_attached, AreConnected, IsComplete, pin_foot}
use Rattle.grid_core.specs.declared.grid.Node.{Node}
use Rattle.grid_core.specs.Grid.{ahead, above, IsNext}
use Rattle.grid_core.specs.Routes.{NetRoutes, Tree, tree_nodes}
use Rattle.grid_core.specs.Trees.{AreWhole, IsFreeFor, IsTreeOver}
use Rattle.grid_core.specs.Grid as grid
use Rattle.maze_drawing.specs.Wiring.{Wire, Wiring, AreBeside, AreNeighbours, HasStep, HasVia, IsOnWire, IsWiringOf, in_tree, at_terminal}
use Rattle.maze_drawing.specs.Wiring as wiring
use Rattle.maze_drawing.specs.Points.{grid_over, signal_names, pin_nodes, instance_nodes, terminal_nodes, port_node, port_nodes, net_nodes, reserved, has_two, via_nodes}
use Rattle.maze_drawing.specs.Law.{IsRouted}
use Rattle.net_drawing.proofs.Block.{port_below, past_apart}
use Rattle.maze_drawing.proofs.Stands.{put_of, block_at}
use Rattle.maze_drawing.proofs.Nodes.{as_node, as_wire, routes_of}
use Rattle.maze_drawing.proofs.Trees.{ahead_ahead, tree_all, whole_points}
use Rattle.maze_drawing.proofs.Pins.{flat_two, flat_long, two_long, if_in, grid_node, PinSpot, spot_at, node_of, pin_there, instance_there, terminal_there}
use Rattle.maze_drawing.proofs.Wired.{bounds_of, port_there, foot_is}

-- ---- ways
way_then : (r : maze.Routes) (n : ℕ) (p q t : maze.Node) → IsWay r n p q → IsWay r n q t → IsWay r n p t
way_then r n p q t stay b = b
way_then r n p q t (step {q = d} s k) b = step s (way_then r n d q t k b)

step_back : (r : maze.Routes) (n : ℕ) (p q : maze.Node) → IsStep r n p q → IsStep r n q p
step_back r n p q (along w h e f a1 a2 a3 a4 b1 b2 b3 b4) = along w h f e b1 b2 b3 b4 a1 a2 a3 a4
step_back r n p q (up h e) = down h e
step_back r n p q (down h e) = up h e

way_back : (r : maze.Routes) (n : ℕ) (p q : maze.Node) → IsWay r n p q → IsWay r n q p
way_back r n p q stay = stay
way_back r n p q (step {q = d} s k) = way_then r n q d p (way_back r n d q k) (step (step_back r n p d s) stay)

-- ---- neighbours
beside_turned : (p q : Node) (path : List Node) → AreBeside p q path → AreBeside q p path
beside_turned p q path wiring.in_order = wiring.turned
beside_turned p q path wiring.turned = wiring.in_order
beside_turned p q path (wiring.later {rest = rest} h) = wiring.later (beside_turned p q rest h)

neighbours_turned : (t : Option Tree) (p q : Node) → AreNeighbours t p q → AreNeighbours t q p
neighbours_turned t p q f = record { path = f.path; listed = f.listed; beside = beside_turned p q f.path f.beside }

module _ (n : AbstractNetlist) (l : Library) (net : Numbering) (p : Placement) (instances : List Instance) (metals : ℕ) (routes : NetRoutes) (w : Wiring) (ok : IsRouted n l net p instances metals routes w) where
  -- ---- from neighbour to neighbour of a tree there is a step
  ahead_step : (k : ℕ) → k < net_count n → (x : Node) → HasStep (routes k) x → IsStep (routes_of l p routes w) k (as_node x) (as_node (ahead x 1))
  ahead_step k lt x h =
      let r = (ok.drawn k lt).whole x h in
      let one = r.0 in let on = r.2 in
      let b1 = bounds_of one.from 0 on.at (omega arith) in
      let b2 = bounds_of one.from on.at one.steps (let a = on.below in omega arith) in
      let c1 = bounds_of one.from 0 (on.at + 1) (omega arith) in
      let c2 = bounds_of one.from (on.at + 1) one.steps (let a = on.below in omega arith) in
      let e2 : ahead x 1 ≡ ahead one.from (on.at + 1) = ap (λ v. ahead v 1) on.is ∙ ahead_ahead one.from on.at 1 in
      let s : IsStep (routes_of l p routes w) k (as_node (ahead one.from on.at)) (as_node (ahead one.from (on.at + 1))) =
      made one (on.at) (on.at + 1) (In_map as_wire (w k).wires one (In_list (w k).wires one r.1)) b1.1 b2.0 b2.1 b1.3 b2.2 b2.3 c1.1 c2.0 c2.1 c1.3 c2.2 c2.3 in
      subst (λ v. IsStep (routes_of l p routes w) k (as_node v) (as_node (ahead x 1))) (sym on.is)
      (subst (λ v. IsStep (routes_of l p routes w) k (as_node (ahead one.from on.at)) (as_node v)) (sym e2) s)
    where
      made : (one : Wire) (i j : ℕ) → figure.In (as_wire one) (map as_wire (w k).wires)
          → (ahead one.from 0).column ≤ (ahead one.from i).column → one.from.column ≤ (ahead one.from i).column → (ahead one.from i).column ≤ (ahead one.from one.steps).column
          → (ahead one.from 0).row ≤ (ahead one.from i).row → one.from.row ≤ (ahead one.from i).row → (ahead one.from i).row ≤ (ahead one.from one.steps).row
          → (ahead one.from 0).column ≤ (ahead one.from j).column → one.from.column ≤ (ahead one.from j).column → (ahead one.from j).column ≤ (ahead one.from one.steps).column
          → (ahead one.from 0).row ≤ (ahead one.from j).row → one.from.row ≤ (ahead one.from j).row → (ahead one.from j).row ≤ (ahead one.from one.steps).row
          → IsStep (routes_of l p routes w) k (as_node (ahead one.from i)) (as_node (ahead one.from j))
      made one i j h a0 a1 a2 a3 a4 a5 d0 d1 d2 d3 d4 d5 =
          along (as_wire one) h refl refl (omega (arith, a1)) (omega (arith, a2)) a4 a5 (omega (arith, d1)) (omega (arith, d2)) d4 d5

  goes : (k : ℕ) → k < net_count n → (x y : Node) → AreNeighbours (routes k) x y → IsNext x y → IsStep (routes_of l p routes w) k (as_node x) (as_node y)
  goes k lt x y f (grid.forth e) =
      subst (λ v. IsStep (routes_of l p routes w) k (as_node x) (as_node v)) (sym e) (ahead_step k lt x (subst (AreNeighbours (routes k) x) e f))
  goes k lt x y f (grid.back e) =
      step_back (routes_of l p routes w) k (as_node y) (as_node x)
      (subst (λ v. IsStep (routes_of l p routes w) k (as_node y) (as_node v)) (sym e) (ahead_step k lt y (subst (AreNeighbours (routes k) y) e (neighbours_turned (routes k) x y f))))
  goes k lt x y f (grid.up e) =
      up (In_map as_node (w k).vias x (In_list (w k).vias x (((ok.drawn k lt).vias x).1 (in_tree (subst (AreNeighbours (routes k) x) e f))))) (ap as_node e)
  goes k lt x y f (grid.down e) =
      down (In_map as_node (w k).vias y (In_list (w k).vias y (((ok.drawn k lt).vias y).1 (in_tree (subst (AreNeighbours (routes k) y) e (neighbours_turned (routes k) x y f)))))) (ap as_node e)

  -- from the start of a tree a way leads to each of its nodes
  from_start : (k : ℕ) → k < net_count n → (t : Tree) → routes k ≡ Some t → (x : Node) → In x (tree_nodes (Some t)) → IsWay (routes_of l p routes w) k (as_node t.start) (as_node x)
  from_start k lt t e x h =
      tree_all t (λ v. IsWay (routes_of l p routes w) k (as_node t.start) (as_node v))
      (λ a b f g z. way_then (routes_of l p routes w) k (as_node t.start) (as_node a) (as_node b) z (step (goes k lt a b (subst (λ v. AreNeighbours v a b) (sym e) f) g) stay))
      (IsFreeFor (grid_over metals l p) (reserved n l net p instances) routes (net_count n) k) (net_nodes n l net p instances k)
      (subst (λ v. IsTreeOver (IsFreeFor (grid_over metals l p) (reserved n l net p instances) routes (net_count n) k) (net_nodes n l net p instances k) v) e (ok.trees k lt)) stay x h

  module _ (whole : AreWhole (net_nodes n l net p instances) (net_count n) routes) where
    point_in : (k : ℕ) → k < net_count n → (x : Node) → In x (net_nodes n l net p instances k) → (t : Tree) × (routes k ≡ Some t) × In x (tree_nodes (routes k))
    point_in k lt x h = whole_points (IsFreeFor (grid_over metals l p) (reserved n l net p instances) routes (net_count n) k) (net_nodes n l net p instances k) (routes k) (ok.trees k lt) (whole k lt) x h

    between_points : (k : ℕ) → k < net_count n → (x y : Node) → In x (net_nodes n l net p instances k) → In y (net_nodes n l net p instances k) → IsWay (routes_of l p routes w) k (as_node x) (as_node y)
    between_points k lt x y hx hy =
        let a = point_in k lt x hx in let b = point_in k lt y hy in
        let t = a.0 in
        let ix = subst (λ v. In x (tree_nodes v)) a.1 a.2 in
        let iy = subst (λ v. In y (tree_nodes v)) a.1 b.2 in
        way_then (routes_of l p routes w) k (as_node x) (as_node t.start) (as_node y)
        (way_back (routes_of l p routes w) k (as_node t.start) (as_node x) (from_start k lt t a.1 x ix)) (from_start k lt t a.1 y iy)

    -- ---- where a terminal of a net with two points is attached
    pub record IsEnd (k : ℕ) (t : Terminal) : Type 0 where
      pub node : Node
      pub point : In node (net_nodes n l net p instances k)
      pub at : maze.Node
      pub attached : IsAttachedAt (block_at n l net p instances) (routes_of l p routes w) k t at
      pub way : IsWay (routes_of l p routes w) k at (as_node node)

    port_end : (k : ℕ) → k < length p.ports → IsEnd k (AtPort (Bit k))
    port_end k lt = record {
      node = port_node l p k;
      point = In_first (port_nodes l p k) (terminal_nodes n l net instances k) (port_node l p k) (port_there n l net p instances metals routes w ok k lt);
      at = as_node (port_node l p k);
      attached = port_attached k;
      way = stay;
    }

    pin_end : (i q k : ℕ) → k < net_count n → i < length n.instances → q < ((block_at n l net p instances).cell i).pins → (block_at n l net p instances).net i q ≡ k
        → has_two (net_nodes n l net p instances k) ≡ true → IsEnd k (AtPin i (Bit q))
    pin_end i q k lt hi hq e two =
        let s = spot_at n l net p instances metals routes w ok i q hi hq in
        let b = block_at n l net p instances in
        let x : Node = grid_node (pin_column b i q) (pin_row b i q) in
        let v : Node = record { metal = 1; column = pin_column b i q - 3; row = pin_row b i q } in
        let h : In x (terminal_nodes n l net instances k) = terminal_there n l net p instances metals routes w ok i q k s.0 s.1 lt s.2 e in
        let point = In_last (port_nodes l p k) (terminal_nodes n l net instances k) x h in
        let tree = (point_in k lt x point).2 in
        let tie : In x (via_nodes n l net p instances k) = if_in (has_two (net_nodes n l net p instances k)) (terminal_nodes n l net instances k) x two h in
        let foot = foot_is n l net p instances metals routes w ok i q k v s.2.start refl refl in
        let via : figure.In (as_node v) (map as_node (w k).vias) = In_map as_node (w k).vias v (In_list (w k).vias v (((ok.drawn k lt).vias v).1 (at_terminal refl tie tree))) in
        let via2 : figure.In (pin_foot b i q) (map as_node (w k).vias) = subst (λ u. figure.In u (map as_node (w k).vias)) foot via in
        record {
          node = x;
          point = point;
          at = pin_foot b i q;
          attached = pin_attached i q via2;
          way = step (up via2 (ap maze.above foot)) stay;
        }

    connected : (k : ℕ) (t u : Terminal) → k < net_count n → IsEnd k t → IsEnd k u → AreConnected (block_at n l net p instances) (routes_of l p routes w) k t u
    connected k t u lt a b = record {
      from = a.at;
      to = b.at;
      attached_from = a.attached;
      attached_to = b.attached;
      way = way_then (routes_of l p routes w) k a.at (as_node a.node) b.at a.way
          (way_then (routes_of l p routes w) k (as_node a.node) (as_node b.node) b.at (between_points k lt a.node b.node a.point b.point) (way_back (routes_of l p routes w) k b.at (as_node b.node) b.way));
    }

    -- ---- terminals by their nets
    pub data Which (t : Terminal) (k : ℕ) : Type 0 where
      a_port : k < length p.ports → t ≡ AtPort (Bit k) → Which t k
      a_pin : (i q : ℕ) → i < length n.instances → q < ((block_at n l net p instances).cell i).pins → t ≡ AtPin i (Bit q) → (block_at n l net p instances).net i q ≡ k → k < net_count n → Which t k
      off : (i q : ℕ) → i < length n.instances → q < ((block_at n l net p instances).cell i).pins → t ≡ AtPin i (Bit q) → (block_at n l net p instances).net i q ≡ k → net_count n ≤ k → Which t k

    signal_of : (a b : ℕ) → Signal a ≡ Signal b → a ≡ b
    signal_of a b e = ap number e
      where
        number : Net → ℕ
        number (PowerNet u) = 0
        number (Signal m) = m

    which : (t : Terminal) (k : ℕ) → Exists (block_at n l net p instances) t → net_of (block_at n l net p instances) t ≡ Signal k → Which t k
    which (AtPort (Power u)) k h e = absurd (cc e)
    which (AtPort (Bit j)) k h e = let f = signal_of j k e in a_port (subst (λ v. v < length p.ports) f h) (ap (λ v. AtPort (Bit v)) f)
    which (AtPin i (Power u)) k h e = absurd (cc e)
    which (AtPin i (Bit q)) k h e =
        let f = signal_of ((block_at n l net p instances).net i q) k e in
        ⊎_elim (λ lt. a_pin i q h.0 h.1 refl f lt) (λ ge. off i q h.0 h.1 refl f ge) (cases_lt k (net_count n))

    -- two pins of one net are the same or its points are two
    two_pins : (i q j s k : ℕ) → k < net_count n → i < length n.instances → q < ((block_at n l net p instances).cell i).pins → j < length n.instances → s < ((block_at n l net p instances).cell j).pins
        → (block_at n l net p instances).net i q ≡ k → (block_at n l net p instances).net j s ≡ k → ((i ≡ j) × (q ≡ s)) ⊎ (has_two (net_nodes n l net p instances k) ≡ true)
    two_pins i q j s k lt hi hq hj hs e f =
        ⊎_elim
        (λ a. inr (more (earlier i q j s a hi hq hj hs e f)))
        (λ a. ⊎_elim
        (λ b. inr (more (earlier j s i q b hj hs hi hq f e)))
        (λ b. let same : j ≡ i = omega (arith, a, b) in
        let hs2 = subst (λ v. s < ((block_at n l net p instances).cell v).pins) same hs in
        let f2 = subst (λ v. (block_at n l net p instances).net v s ≡ k) same f in
        ⊎_elim
        (λ c. inr (more (inside i q s c hi hq hs2 e f2)))
        (λ c. ⊎_elim (λ d. inr (more (inside i s q d hi hs2 hq f2 e))) (λ d. inl (sym same, omega (arith, c, d))) (cases_lt s q))
        (cases_lt q s))
        (cases_lt j i))
        (cases_lt i j)
      where
        more : 2 ≤ length (terminal_nodes n l net instances k) → has_two (net_nodes n l net p instances k) ≡ true
        more h = let a = length-append (port_nodes l p k) (terminal_nodes n l net instances k) in two_long (net_nodes n l net p instances k) (omega (arith, h, a))

        earlier : (i q j s : ℕ) → i < j → i < length n.instances → q < ((block_at n l net p instances).cell i).pins → j < length n.instances → s < ((block_at n l net p instances).cell j).pins
            → (block_at n l net p instances).net i q ≡ k → (block_at n l net p instances).net j s ≡ k → 2 ≤ length (terminal_nodes n l net instances k)
        earlier i q j s a hi hq hj hs e f =
            let x = spot_at n l net p instances metals routes w ok i q hi hq in let y = spot_at n l net p instances metals routes w ok j s hj hs in
            flat_two (instance_nodes n l net k) instances i j x.0 y.0 (node_of n l net p instances metals routes w ok i q) (node_of n l net p instances metals routes w ok j s) a x.2.at y.2.at
            (instance_there n l net p instances metals routes w ok i q k x.0 x.1 lt x.2 e) (instance_there n l net p instances metals routes w ok j s k y.0 y.1 lt y.2 f)

        inside : (i q s : ℕ) → q < s → i < length n.instances → q < ((block_at n l net p instances).cell i).pins → s < ((block_at n l net p instances).cell i).pins
            → (block_at n l net p instances).net i q ≡ k → (block_at n l net p instances).net i s ≡ k → 2 ≤ length (terminal_nodes n l net instances k)
        inside i q s a hi hq hs e f =
            let x = spot_at n l net p instances metals routes w ok i q hi hq in let y = spot_at n l net p instances metals routes w ok i s hi hs in
            let one_same : y.0 ≡ x.0 = same_some y.0 x.0 (sym y.2.at ∙ x.2.at) in
            let y2 : PinSpot n l net p instances metals routes w ok i s x.0 y.1 = subst (λ v. PinSpot n l net p instances metals routes w ok i s v y.1) one_same y.2 in
            let names : names_of (pin_ports y2.cell) ≡ signal_names (cell_of l x.0.model) = ap signal_names (sym y2.found) in
            let names1 : names_of (pin_ports x.2.cell) ≡ signal_names (cell_of l x.0.model) = ap signal_names (sym x.2.found) in
            let at1 = subst (λ v. slice_get v q ≡ Some x.1) names1 x.2.named in
            let at2 = subst (λ v. slice_get v s ≡ Some y.1) names y2.named in
            let two = flat_two (pin_nodes n l net k x.0) (signal_names (cell_of l x.0.model)) q s x.1 y.1 (node_of n l net p instances metals routes w ok i q) (node_of n l net p instances metals routes w ok i s) a at1 at2
            (pin_there n l net p instances metals routes w ok i q k x.0 x.1 lt x.2 e) (pin_there n l net p instances metals routes w ok i s k x.0 y.1 lt y2 f) in
            let long = flat_long (instance_nodes n l net k) instances i x.0 x.2.at in
            omega (arith, two, long)
          where
            same_some : (a b : Instance) → Some a ≡ Some b → a ≡ b
            same_some a b e = cc

    -- a port and a pin are two
    port_and_pin : (i q k : ℕ) → k < net_count n → k < length p.ports → i < length n.instances → q < ((block_at n l net p instances).cell i).pins → (block_at n l net p instances).net i q ≡ k → has_two (net_nodes n l net p instances k) ≡ true
    port_and_pin i q k lt hk hi hq e =
        let s = spot_at n l net p instances metals routes w ok i q hi hq in
        let a = long (port_nodes l p k) (port_node l p k) (port_there n l net p instances metals routes w ok k hk) in
        let b = long (terminal_nodes n l net instances k) (node_of n l net p instances metals routes w ok i q) (terminal_there n l net p instances metals routes w ok i q k s.0 s.1 lt s.2 e) in
        let c = length-append (port_nodes l p k) (terminal_nodes n l net instances k) in
        two_long (net_nodes n l net p instances k) (omega (arith, a, b, c))
      where
        long : (xs : List Node) (y : Node) → In y xs → 1 ≤ length xs
        long xs y here = omega arith
        long xs y (there h) = omega arith

    both : (t u : Terminal) (k : ℕ) → Which t k → Which u k → (t ≡ u) ⊎ ((k < net_count n) × AreConnected (block_at n l net p instances) (routes_of l p routes w) k t u)
    both t u k (a_port hk e) (a_port hj f) = inl (e ∙ sym f)
    both t u k (a_port hk e) (a_pin i q hi hq f g lt) =
        inr (
          lt,
          subst (λ v. AreConnected (block_at n l net p instances) (routes_of l p routes w) k v u) (sym e) (subst (λ v. AreConnected (block_at n l net p instances) (routes_of l p routes w) k (AtPort (Bit k)) v) (sym f)
              (connected k (AtPort (Bit k)) (AtPin i (Bit q)) lt (port_end k hk) (pin_end i q k lt hi hq g (port_and_pin i q k lt hk hi hq g)))),
        )
    both t u k (a_port hk e) (off i q hi hq f g ge) = absurd (let a = port_below n l net p.ports (put_of l p instances) ok.nets k hk in omega (arith, a, ge))
    both t u k (a_pin i q hi hq f g lt) (a_port hk e) =
        inr (
          lt,
          subst (λ v. AreConnected (block_at n l net p instances) (routes_of l p routes w) k v u) (sym f) (subst (λ v. AreConnected (block_at n l net p instances) (routes_of l p routes w) k (AtPin i (Bit q)) v) (sym e)
              (connected k (AtPin i (Bit q)) (AtPort (Bit k)) lt (pin_end i q k lt hi hq g (port_and_pin i q k lt hk hi hq g)) (port_end k hk))),
        )
    both t u k (a_pin i q hi hq f g lt) (a_pin j s hj hs f2 g2 lt2) =
        ⊎_elim
        (λ (a, b). inl (f ∙ ap (λ v. AtPin v (Bit q)) a ∙ ap (λ v. AtPin j (Bit v)) b ∙ sym f2))
        (λ two. inr (
          lt,
          subst (λ v. AreConnected (block_at n l net p instances) (routes_of l p routes w) k v u) (sym f) (subst (λ v. AreConnected (block_at n l net p instances) (routes_of l p routes w) k (AtPin i (Bit q)) v) (sym f2)
              (connected k (AtPin i (Bit q)) (AtPin j (Bit s)) lt (pin_end i q k lt hi hq g two) (pin_end j s k lt hj hs g2 two))),
        ))
        (two_pins i q j s k lt hi hq hj hs g g2)
    both t u k (a_pin i q hi hq f g lt) (off j s hj hs f2 g2 ge) = absurd (omega (arith, lt, ge))
    both t u k (off i q hi hq f g ge) (a_port hk e) = absurd (let a = port_below n l net p.ports (put_of l p instances) ok.nets k hk in omega (arith, a, ge))
    both t u k (off i q hi hq f g ge) (a_pin j s hj hs f2 g2 lt) = absurd (omega (arith, lt, ge))
    both t u k (off i q hi hq f g ge) (off j s hj hs f2 g2 ge2) =
        let a = past_apart n l net p.ports (put_of l p instances) ok.nets i q j s hi hq hj hs (omega (arith, g, ge)) (g ∙ sym g2) in
        inl (f ∙ ap (λ v. AtPin v (Bit q)) a.0 ∙ ap (λ v. AtPin j (Bit v)) a.1 ∙ sym f2)

    pub complete : IsComplete (block_at n l net p instances) (routes_of l p routes w)
    complete = record { joined = λ t u k ht hu e f. both t u k (which t k ht e) (which u k hu f) }
