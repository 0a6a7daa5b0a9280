-- The drawing of routes fits the plan of the nodes that nets have.
use Rattle.std.proofs.Common.{◌≡◌, ℕ, ◌+◌, ◌-◌, ◌*◌, ◌<◌, ◌≤◌, inl, inr, ⊎_elim, [], ◌∷◌, ◌++◌, map, refl, sym, ap, subst, arith}
use Rattle.std.proofs.lemmas.Bool.{cases_lt}
use Rattle.block_geom.specs.Figure.{Supply, Vss, Vdd, Blank, In}
use Rattle.block_geom.specs.Block.{Block, IsSound, PowerNet, Tagged, strip_y, supply_at, rail_y, pin_column, shapes, Terminal, net_of, AreJoined}
use Rattle.block_geom.specs.Tracks.{blank_lines}
use Rattle.block_geom.proofs.Lists.{In_append_cases, In_up_to_cases, In_map_cases}
use Rattle.block_geom.proofs.Plan.{Plan, IsCentre, Fits, IsPlan}
use Rattle.block_geom.proofs.Lines.{wire_fits, via_fits, pin_fits, port_fits, rail_fits, supply_port_fits, blank_fits, strap_fits, strap_via_fits, rail_via_fits}
use Rattle.block_geom.proofs.Only.{joined_has_one_net}
use Rattle.maze_geom.specs.Maze.{Node, Wire, Routes, port_row, above, pin_foot, wire_line, via_line, maze_port, maze_ports, net_lines, maze_nets, rail_line_at, rail_vias, strap_lines, rail_lines, row_supplies, supply_port, maze_lines, IsVia, between, at_pin, IsWired}

-- the plan: the nodes that each net has
abbrev pub nodes_of : Block → Routes → Plan
nodes_of b r m c y n = (n < b.nets) × In (record { metal = m; column = c; row = y }) (r.nodes n)

rail_bounds : (f u : Supply) (j : ℕ) → (5000 * j + 300 ≤ strip_y f u j) × (strip_y f u j ≤ 5000 * j + 4700)
rail_bounds Vss Vss j = omega arith
rail_bounds Vss Vdd j = omega arith
rail_bounds Vdd Vss j = omega arith
rail_bounds Vdd Vdd j = omega arith

pub rail_order : (j k : ℕ) (u : Supply) → j ≤ k → rail_y j u ≤ rail_y k u
rail_order j k u le =
    ⊎_elim
    (λ lt. let a = rail_bounds (supply_at j) u j in let c = rail_bounds (supply_at k) u k in omega arith)
    (λ ge. let e : j ≡ k = omega arith in let f = ap (λ v. rail_y v u) e in omega arith)
    (cases_lt j k)

module _ (b : Block) (r : Routes) (sound : IsSound b) (wired : IsWired b r) where
  centre : (j : ℕ) (u : Supply) → j < b.rows → IsCentre b u (rail_y j u)
  centre j u lt = record { row = j; within = lt; is = refl }

  one_net : (m c y n k : ℕ) → nodes_of b r m c y n → nodes_of b r m c y k → n ≡ k
  one_net m c y n k (a, e) (d, f) = wired.apart n k (record { metal = m; column = c; row = y }) a d e f

  pin_start : (i p : ℕ) → i < b.count → 3 ≤ pin_column b i p
  pin_start i p lt = let a = sound.start i lt in omega arith

  via_fit : (n : ℕ) (v : Node) → n < b.nets → IsVia b r n v → Fits b (nodes_of b r) (via_line n v)
  via_fit n v lt (between h g) =
      let k = wired.grid n v lt h in
      via_fits b (nodes_of b r) n v.metal v.column v.row k.0 k.1 (lt, h) (lt, g)
  via_fit n v lt (at_pin i p hi hp e f g) =
      let g2 : In (above (pin_foot b i p)) (r.nodes (b.net i p)) = subst (λ k. In (above (pin_foot b i p)) (r.nodes k)) (sym e) (subst (λ w. In (above w) (r.nodes n)) f g) in
      let lt2 : b.net i p < b.nets = subst (λ k. k < b.nets) (sym e) lt in
      subst (λ w. Fits b (nodes_of b r) (via_line n w)) (sym f)
      (subst (λ k. Fits b (nodes_of b r) (via_line k (pin_foot b i p))) e
      (pin_fits b (nodes_of b r) i p hi hp (pin_start i p hi) (lt2, g2)))

  wire_fit : (n : ℕ) (w : Wire) → n < b.nets → In w (r.wires n) → Fits b (nodes_of b r) (wire_line n w)
  wire_fit n w lt h =
      let o = wired.wires n w lt h in
      let k = wired.grid n (record { metal = w.metal; column = w.c1; row = w.r1 }) lt (o.nodes w.c1 w.r1 (omega arith) o.columns (omega arith) o.rows) in
      wire_fits b (nodes_of b r) n w.metal w.c1 w.r1 w.c2 w.r2 _ k.0 k.1 o.columns o.rows (λ c y a1 a2 a3 a4. (lt, o.nodes c y a1 a2 a3 a4))

  nets_fit : (t : Tagged) → In t (maze_nets b r) → Fits b (nodes_of b r) t
  nets_fit t h =
      let a = In_up_to_cases b.nets (net_lines r) t h in
      let n = a.0 in
      ⊎_elim
      (λ g. let w = In_map_cases (wire_line n) (r.wires n) t g in
      subst (Fits b (nodes_of b r)) (sym w.2) (wire_fit n w.0 a.1 w.1))
      (λ g. let v = In_map_cases (via_line n) (r.vias n) t g in
      subst (Fits b (nodes_of b r)) (sym v.2) (via_fit n v.0 a.1 (wired.vias n v.0 a.1 v.1)))
      (In_append_cases (map (wire_line n) (r.wires n)) (map (via_line n) (r.vias n)) t a.2)

  rail_fit : (j : ℕ) (u : Supply) → j < b.rows → Fits b (nodes_of b r) (rail_line_at b j u)
  rail_fit j u lt = rail_fits b (nodes_of b r) u (rail_y j u) (1500 + 500 * b.columns) (centre j u lt) (omega arith)

  straps_fit : (u : Supply) (t : Tagged) → In t (strap_lines b u) → Fits b (nodes_of b r) t
  straps_fit u t (inl e) =
      let k = wired.rows in
      subst (Fits b (nodes_of b r)) (sym e) (strap_fits b (nodes_of b r) u (rail_y 0 u) (rail_y (b.rows - 1) u) (centre 0 u (omega arith)) (centre (b.rows - 1) u (omega arith)) (rail_order 0 (b.rows - 1) u (omega arith)))
  straps_fit u t (inr h) =
      let a = In_up_to_cases b.rows (rail_vias u) t h in via a.0 a.1 t a.2
    where
      via : (j : ℕ) → j < b.rows → (t : Tagged) → In t (rail_vias u j) → Fits b (nodes_of b r) t
      via j lt t (inl e) = subst (Fits b (nodes_of b r)) (sym e) (rail_via_fits b (nodes_of b r) u (rail_y j u) (centre j u lt))
      via j lt t (inr (inl e)) = subst (Fits b (nodes_of b r)) (sym e) (strap_via_fits b (nodes_of b r) u (rail_y j u) (centre j u lt))
      via j lt t (inr (inr h)) = absurd h

  supplies_fit : (t : Tagged) → In t (row_supplies b) → Fits b (nodes_of b r) t
  supplies_fit t h =
      ⊎_elim
      (λ g. let a = In_up_to_cases b.rows (λ j. rail_line_at b j Vss ∷ (rail_line_at b j Vdd ∷ [])) t g in rails a.0 a.1 t a.2)
      (λ g. ⊎_elim (straps_fit Vss t) (straps_fit Vdd t) (In_append_cases (strap_lines b Vss) (strap_lines b Vdd) t g))
      (In_append_cases (rail_lines b) (strap_lines b Vss ++ strap_lines b Vdd) t h)
    where
      rails : (j : ℕ) → j < b.rows → (t : Tagged) → In t (rail_line_at b j Vss ∷ (rail_line_at b j Vdd ∷ [])) → Fits b (nodes_of b r) t
      rails j lt t (inl e) = subst (Fits b (nodes_of b r)) (sym e) (rail_fit j Vss lt)
      rails j lt t (inr (inl e)) = subst (Fits b (nodes_of b r)) (sym e) (rail_fit j Vdd lt)
      rails j lt t (inr (inr h)) = absurd h

  supply_port_fit : (u : Supply) → Fits b (nodes_of b r) (supply_port u)
  supply_port_fit u = let k = wired.rows in supply_port_fits b (nodes_of b r) u (rail_y 0 u) (centre 0 u (omega arith))

  ports_fit : (t : Tagged) → In t (supply_port Vss ∷ (supply_port Vdd ∷ maze_ports b r)) → Fits b (nodes_of b r) t
  ports_fit t (inl e) = subst (Fits b (nodes_of b r)) (sym e) (supply_port_fit Vss)
  ports_fit t (inr (inl e)) = subst (Fits b (nodes_of b r)) (sym e) (supply_port_fit Vdd)
  ports_fit t (inr (inr h)) =
      let a = In_up_to_cases b.ports (λ k. maze_port b r k ∷ []) t h in
      ⊎_elim
      (λ e. let o = wired.ports a.0 a.1 in let k = wired.grid (b.port_net a.0) _ o.0 o.1 in
      subst (Fits b (nodes_of b r)) (sym e) (port_fits b (nodes_of b r) a.0 3 (r.port_column a.0) (port_row b.rows) a.1 (omega arith) k.1 o))
      (λ g. absurd g)
      a.2

  blanks_fit : (t : Tagged) → In t (blank_lines b) → Fits b (nodes_of b r) t
  blanks_fit t h =
      let a = In_up_to_cases b.count (λ i. record { net = PowerNet Vss; line = Blank } ∷ []) t h in
      ⊎_elim (λ e. subst (Fits b (nodes_of b r)) (sym e) (blank_fits b (nodes_of b r))) (λ g. absurd g) a.2

  pub maze_plan : IsPlan b (nodes_of b r) (maze_lines b r)
  maze_plan = record {
    one_net = one_net;
    fits = λ t h. ⊎_elim (ports_fit t)
        (λ g. ⊎_elim (blanks_fit t) (λ g. ⊎_elim (supplies_fit t) (nets_fit t) (In_append_cases (row_supplies b) (maze_nets b r) t g))
        (In_append_cases (blank_lines b) (row_supplies b ++ maze_nets b r) t g))
        (In_append_cases (supply_port Vss ∷ (supply_port Vdd ∷ maze_ports b r)) (blank_lines b ++ (row_supplies b ++ maze_nets b r)) t h);
  }

  pub maze_only : (t u : Terminal) → AreJoined (shapes b (maze_lines b r)) t u → net_of b t ≡ net_of b u
  maze_only t u j = joined_has_one_net b (nodes_of b r) (maze_lines b r) sound maze_plan t u j
