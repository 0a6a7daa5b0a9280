-- The routes of a netlist by numbers: no node has two nets, and all that is drawn of a net stands on its nodes.
use Rattle.std.proofs.Common.{◌≡◌, ◌≢◌, ℕ, ◌+◌, ◌-◌, ◌*◌, ◌<◌, ◌≤◌, ◌⊎◌, inl, inr, ⊎_elim, Bool, true, false, List, [], ◌∷◌, ◌++◌, length, refl, sym, ap, ◌∙◌, subst, arith, if◌then◌else◌}
use Rattle.std.specs.Prelude.{flat_map, nat_lt, ◌/◌}
use Rattle.std.proofs.lemmas.Nat.{le-div}
use Rattle.std.proofs.lemmas.Bool.{cases_lt}
use Rattle.std.proofs.lemmas.Bool.Decides.{nat_tests}
use Rattle.std.proofs.Math.Nat.{mul-le-mul_right}
use Rattle.vlsi_base.specs.Member.{In, here, there}
use Rattle.sym_geom.specs.declared.item.Instance.{Instance}
use Rattle.cell_model.specs.Library.{Library}
use Rattle.net_meaning.specs.Netlist.{AbstractNetlist}
use Rattle.ocp_rows.specs.Placement.{Placement, block_columns, port_column, net_count}
use Rattle.block_geom.specs.Figure as figure
use Rattle.block_geom.specs.Block.{pin_column, pin_row}
use Rattle.block_geom.proofs.Lists.{In_map, In_map_cases}
use Rattle.net_drawing.specs.Drawing.{Numbering}
use Rattle.net_drawing.proofs.Coding.{In_list, In_member}
use Rattle.net_drawing.proofs.Cells.{In_first, In_last}
use Rattle.maze_geom.specs.Maze as maze
use Rattle.maze_geom.specs.Maze.{IsWired, IsOnNodes, IsVia, between, at_pin}
use Rattle.grid_core.specs.declared.grid.Node.{Node}
use Rattle.grid_core.specs.Grid.{is_level, ahead, above}
use Rattle.grid_core.specs.Routes.{NetRoutes, tree_nodes}
use Rattle.grid_core.specs.Trees.{IsFreeFor}
use Rattle.maze_drawing.specs.Wiring.{Wire, Wiring, HasVia, in_tree, at_terminal}
use Rattle.maze_drawing.specs.Points.{grid_over, terminal_nodes, port_node, port_nodes, net_nodes, reserved, has_two, via_nodes}
use Rattle.maze_drawing.specs.Law.{IsRouted}
use Rattle.net_drawing.proofs.Block.{port_below}
use Rattle.grid_core.proofs.Lists.{In_either}
use Rattle.maze_drawing.proofs.Stands.{put_of, block_at, columns_are}
use Rattle.maze_drawing.proofs.Nodes.{as_node, as_wire, routes_of}
use Rattle.maze_drawing.proofs.Trees.{neighbours_in, run_in, tree_free}
use Rattle.maze_drawing.proofs.Pins.{if_cases, grid_node, terminal_cases}

is_less : (a b : ℕ) → nat_lt a b ≡ true → a < b
is_less a b h = grind (arith, nat_tests)

less_is : (a b : ℕ) → a < b → nat_lt a b ≡ true
less_is a b h = grind (arith, nat_tests)

pub same_node : (p q : Node) → as_node p ≡ as_node q → p ≡ q
same_node p q e =
    let a : p.metal ≡ q.metal = ap (λ v. v.metal) e in
    let b : 3 + p.column ≡ 3 + q.column = ap (λ v. v.column) e in
    let b2 : p.column ≡ q.column = omega arith in
    let c : p.row ≡ q.row = ap (λ v. v.row) e in
    ap (λ v. record { metal = v; column = p.column; row = p.row }) a
    ∙ ap (λ v. record { metal = q.metal; column = v; row = p.row }) b2
    ∙ ap (λ v. record { metal = q.metal; column = q.column; row = v }) c

-- ---- columns of ports
pub ports_apart : (count columns n k : ℕ) → count + 1 ≤ columns → n < count → k < count → port_column count columns n ≡ port_column count columns k → n ≡ k
ports_apart count columns n k wide hn hk e =
    let d : 1 ≤ (columns - 1) / count = le-div 1 (columns - 1) count (omega arith) (omega arith) in
    let f : n * ((columns - 1) / count) ≡ k * ((columns - 1) / count) = omega (arith, e) in
    ⊎_elim
    (λ lt. absurd (let a : (n + 1) * ((columns - 1) / count) ≤ k * ((columns - 1) / count) = mul-le-mul_right ((columns - 1) / count) (omega (arith, lt)) in omega (arith, a, f, d)))
    (λ ge. ⊎_elim
    (λ gt. absurd (let a : (k + 1) * ((columns - 1) / count) ≤ n * ((columns - 1) / count) = mul-le-mul_right ((columns - 1) / count) (omega (arith, gt)) in omega (arith, a, f, d)))
    (λ le. omega (arith, ge, le))
    (cases_lt k n))
    (cases_lt n k)

-- ---- nodes of wires
level_between : (v : Bool) (m a r s c y : ℕ) → 3 + a ≤ c → c ≤ 3 + (if v then a + s else a) → r ≤ y → y ≤ (if v then r else r + s)
    → (j : ℕ) × (j ≤ s) × ((λ (x : maze.Node). x) (record { metal = m; column = c; row = y }) ≡ record { metal = m; column = 3 + (if v then a + j else a); row = if v then r else r + j })
level_between true m a r s c y h1 h2 h3 h4 =
    let e : c ≡ 3 + (a + (c - (3 + a))) = omega arith in let f : y ≡ r = omega arith in
    (c - (3 + a), omega arith, ap (λ v. record { metal = m; column = v; row = y }) e ∙ ap (λ v. record { metal = m; column = 3 + (a + (c - (3 + a))); row = v }) f)
level_between false m a r s c y h1 h2 h3 h4 =
    let e : c ≡ 3 + a = omega arith in let f : y ≡ r + (y - r) = omega arith in
    (y - r, omega arith, ap (λ v. record { metal = m; column = v; row = y }) e ∙ ap (λ v. record { metal = m; column = 3 + a; row = v }) f)

-- along a wire, columns and rows don't fall
bounds_by : (v : Bool) (a r j s : ℕ) → j ≤ s → (a ≤ (if v then a + j else a)) × ((if v then a + j else a) ≤ (if v then a + s else a)) × (r ≤ (if v then r else r + j)) × ((if v then r else r + j) ≤ (if v then r else r + s))
bounds_by true a r j s le = (omega arith, omega arith, omega arith, omega arith)
bounds_by false a r j s le = (omega arith, omega arith, omega arith, omega arith)

pub bounds_of : (p : Node) (j s : ℕ) → j ≤ s → (p.column ≤ (ahead p j).column) × ((ahead p j).column ≤ (ahead p s).column) × (p.row ≤ (ahead p j).row) × ((ahead p j).row ≤ (ahead p s).row)
bounds_of p j s le = bounds_by (is_level p.metal) p.column p.row j s le

module _ (n : AbstractNetlist) (l : Library) (net : Numbering) (p : Placement) (instances : List Instance) (metals : ℕ) (routes : NetRoutes) (w : Wiring) (ok : IsRouted n l net p instances metals routes w) where
  abbrev R : maze.Routes
  R = routes_of l p routes w

  abbrev Free : ℕ → Node → Type 0
  Free k = IsFreeFor (grid_over metals l p) (reserved n l net p instances) routes (net_count n) k

  pub free_in : (k : ℕ) → k < net_count n → (x : Node) → In x (tree_nodes (routes k)) → IsFreeFor (grid_over metals l p) (reserved n l net p instances) routes (net_count n) k x
  free_in k lt x h = tree_free (IsFreeFor (grid_over metals l p) (reserved n l net p instances) routes (net_count n) k) (net_nodes n l net p instances k) (routes k) (ok.trees k lt) x h

  port_is : (k : ℕ) (x : Node) → In x (port_nodes l p k) → (k < length p.ports) × (x ≡ port_node l p k)
  port_is k x h = let a = if_cases (nat_lt k (length p.ports)) (port_node l p k ∷ []) x h in (is_less k (length p.ports) a.0, only x (port_node l p k) a.1)
    where
      only : (x y : Node) → In x (y ∷ []) → x ≡ y
      only x y here = refl
      only x y (there g) = elim g [ ]

  pub port_there : (k : ℕ) → k < length p.ports → In (port_node l p k) (port_nodes l p k)
  port_there k lt = subst (λ v. In (port_node l p k) (if v then port_node l p k ∷ [] else [])) (sym (less_is k (length p.ports) lt)) here

  -- nodes of a net
  node_cases : (k : ℕ) (x : maze.Node) → figure.In x ((routes_of l p routes w).nodes k) → (q : Node) × (x ≡ as_node q) × (In q (tree_nodes (routes k)) ⊎ In q (port_nodes l p k))
  node_cases k x h =
      let a = In_map_cases as_node (tree_nodes (routes k) ++ port_nodes l p k) x h in
      (a.0, a.2, In_either (tree_nodes (routes k)) (port_nodes l p k) a.0 (In_member (tree_nodes (routes k) ++ port_nodes l p k) a.0 a.1))

  pub tree_node : (k : ℕ) (q : Node) → In q (tree_nodes (routes k)) → figure.In (as_node q) ((routes_of l p routes w).nodes k)
  tree_node k q h = In_map as_node (tree_nodes (routes k) ++ port_nodes l p k) q (In_list (tree_nodes (routes k) ++ port_nodes l p k) q (In_first (tree_nodes (routes k)) (port_nodes l p k) q h))

  pub a_port_node : (k : ℕ) (q : Node) → In q (port_nodes l p k) → figure.In (as_node q) ((routes_of l p routes w).nodes k)
  a_port_node k q h = In_map as_node (tree_nodes (routes k) ++ port_nodes l p k) q (In_list (tree_nodes (routes k) ++ port_nodes l p k) q (In_last (tree_nodes (routes k)) (port_nodes l p k) q h))

  is_reserved : (k : ℕ) (q : Node) → In q (port_nodes l p k) → In q (reserved n l net p instances k)
  is_reserved k q h = In_first (port_nodes l p k) (flat_map (λ q. q ∷ above q ∷ []) (terminal_nodes n l net instances k)) q h

  one_net : (a k : ℕ) (q : Node) → a < net_count n → k < net_count n → a ≢ k → In q (tree_nodes (routes a)) ⊎ In q (port_nodes l p a) → In q (tree_nodes (routes k)) ⊎ In q (port_nodes l p k) → ⊥
  one_net a k q ha hk ne (inl f) (inl g) = (free_in a ha q f).apart k hk (λ e. ne (sym e)) g
  one_net a k q ha hk ne (inl f) (inr g) = (free_in a ha q f).kept k hk (λ e. ne (sym e)) (is_reserved k q g)
  one_net a k q ha hk ne (inr f) (inl g) = (free_in k hk q g).kept a ha ne (is_reserved a q f)
  one_net a k q ha hk ne (inr f) (inr g) =
      let x = port_is a q f in let y = port_is k q g in
      let e : port_column (length p.ports) (block_columns l p) a ≡ port_column (length p.ports) (block_columns l p) k = ap (λ v. v.column) (sym x.1 ∙ y.1) in
      let c = columns_are n l net p instances metals routes w ok in
      ne (ports_apart (length p.ports) (block_columns l p) a k (omega (arith, c)) x.0 y.0 e)

  same_or_not : (a k : ℕ) → (a ≡ k) ⊎ (a ≢ k)
  same_or_not a k =
      ⊎_elim (λ lt. inr (λ e. omega (arith, lt, e))) (λ ge. ⊎_elim (λ gt. inr (λ e. omega (arith, gt, e))) (λ le. inl (omega (arith, ge, le))) (cases_lt k a)) (cases_lt a k)

  apart : (a k : ℕ) (x : maze.Node) → a < net_count n → k < net_count n → figure.In x ((routes_of l p routes w).nodes a) → figure.In x ((routes_of l p routes w).nodes k) → a ≡ k
  apart a k x ha hk f g =
      let c = node_cases a x f in let d = node_cases k x g in
      let e : d.0 ≡ c.0 = same_node d.0 c.0 (sym d.1 ∙ c.1) in
      ⊎_elim (λ s. s)
      (λ ne. absurd (one_net a k c.0 ha hk ne c.2 (subst (λ v. In v (tree_nodes (routes k)) ⊎ In v (port_nodes l p k)) e d.2)))
      (same_or_not a k)

  grid : (k : ℕ) (x : maze.Node) → k < net_count n → figure.In x ((routes_of l p routes w).nodes k) → (2 ≤ x.metal) × (3 ≤ x.column)
  grid k x lt h =
      let c = node_cases k x h in
      subst (λ (v : maze.Node). (2 ≤ v.metal) × (3 ≤ v.column)) (sym c.1) (
        ⊎_elim (λ f. (free_in k lt c.0 f).within.low) (λ f. let e : c.0.metal ≡ 3 = ap (λ v. v.metal) (port_is k c.0 f).1 in omega (arith, e)) c.2,
        omega arith,
      )

  on_nodes : (k : ℕ) (x : maze.Wire) → k < net_count n → figure.In x ((routes_of l p routes w).wires k) → IsOnNodes (routes_of l p routes w) k x
  on_nodes k x lt h =
      let a = In_map_cases as_wire (w k).wires x h in
      let run = (ok.drawn k lt).runs a.0 (In_member (w k).wires a.0 a.1) in
      let o = bounds_of a.0.from 0 a.0.steps (omega arith) in let o0 = o.0 in let o1 = o.1 in let o2 = o.2 in let o3 = o.3 in
      subst (IsOnNodes (routes_of l p routes w) k) (sym a.2) (record {
        columns = omega arith;
        rows = omega arith;
        nodes = λ c y h1 h2 h3 h4.
            let r = level_between (is_level a.0.from.metal) a.0.from.metal a.0.from.column a.0.from.row a.0.steps c y h1 h2 h3 h4 in
            subst (λ v. figure.In v ((routes_of l p routes w).nodes k)) (sym r.2) (tree_node k (ahead a.0.from r.0) (run_in (routes k) a.0 run r.0 r.1));
      })

  -- the foot of a pin's via
  pub foot_is : (i q k : ℕ) (v : Node) → 3 ≤ pin_column (block_at n l net p instances) i q → v.metal ≡ 1 → above v ≡ grid_node (pin_column (block_at n l net p instances) i q) (pin_row (block_at n l net p instances) i q)
      → as_node v ≡ maze.pin_foot (block_at n l net p instances) i q
  foot_is i q k v le m e =
      let a : v.column ≡ pin_column (block_at n l net p instances) i q - 3 = ap (λ x. x.column) e in
      let b : v.row ≡ pin_row (block_at n l net p instances) i q = ap (λ x. x.row) e in
      let c : 3 + v.column ≡ pin_column (block_at n l net p instances) i q = omega (arith, a, le) in
      ap (λ x. record { metal = x; column = 3 + v.column; row = v.row }) m
      ∙ ap (λ x. record { metal = 1; column = x; row = v.row }) c
      ∙ ap (λ x. record { metal = 1; column = pin_column (block_at n l net p instances) i q; row = x }) b

  via_by : (k : ℕ) (v : Node) → k < net_count n → HasVia (routes k) (via_nodes n l net p instances k) v → IsVia (block_at n l net p instances) (routes_of l p routes w) k (as_node v)
  via_by k v lt (in_tree f) = let r = neighbours_in (routes k) v (above v) f in between (tree_node k v r.0) (tree_node k (above v) r.1)
  via_by k v lt (at_terminal m f g) =
      let h = if_cases (has_two (net_nodes n l net p instances k)) (terminal_nodes n l net instances k) (above v) f in
      let c = terminal_cases n l net p instances metals routes w ok k lt (above v) h.1 in
      at_pin c.i c.q c.instance c.pin c.net_is (foot_is c.i c.q k v c.spot.start m c.is) (tree_node k (above v) g)

  via : (k : ℕ) (x : maze.Node) → k < net_count n → figure.In x ((routes_of l p routes w).vias k) → IsVia (block_at n l net p instances) (routes_of l p routes w) k x
  via k x lt h =
      let a = In_map_cases as_node (w k).vias x h in
      subst (IsVia (block_at n l net p instances) (routes_of l p routes w) k) (sym a.2) (via_by k a.0 lt (((ok.drawn k lt).vias a.0).0 (In_member (w k).vias a.0 a.1)))

  pub wired : IsWired (block_at n l net p instances) (routes_of l p routes w)
  wired = record {
    rows = ok.rows;
    apart = apart;
    grid = grid;
    wires = on_nodes;
    vias = via;
    ports = λ k lt. (port_below n l net p.ports (put_of l p instances) ok.nets k lt, a_port_node k (port_node l p k) (port_there k lt));
  }

  -- ---- metals of what is drawn
  pub wire_metals : (k : ℕ) → k < net_count n → (one : Wire) → In one (w k).wires → (2 ≤ one.from.metal) × (one.from.metal ≤ 6)
  wire_metals k lt one h =
      let f = free_in k lt (ahead one.from 0) (run_in (routes k) one ((ok.drawn k lt).runs one h) 0 (omega arith)) in
      let a = f.within.low in let b = f.within.high in let c = ok.few_metals in (a, omega arith)

  pub via_metals : (k : ℕ) → k < net_count n → (v : Node) → In v (w k).vias → (1 ≤ v.metal) × (v.metal ≤ 5)
  via_metals k lt v h = by (((ok.drawn k lt).vias v).0 h)
    where
      by : HasVia (routes k) (via_nodes n l net p instances k) v → (1 ≤ v.metal) × (v.metal ≤ 5)
      by (in_tree f) =
          let r = neighbours_in (routes k) v (above v) f in
          let a = (free_in k lt v r.0).within.low in let b = (free_in k lt (above v) r.1).within.high in let c = ok.few_metals in (omega arith, omega arith)
      by (at_terminal m f g) = (omega (arith, m), omega (arith, m))
