-- The drawing of routes has no breach, joins supplies, and joins the terminals that ways lead to.
use Rattle.std.proofs.Common.{◌≡◌, ℕ, ◌+◌, ◌-◌, ◌*◌, ◌<◌, ◌≤◌, inl, inr, ⊎_elim, List, [], ◌∷◌, ◌++◌, map, Some, refl, sym, ap, ◌∙◌, subst, arith}
use Rattle.std.specs.Prelude.{pos, ◌≤ℤ◌}
use Rattle.std.proofs.lemmas.Int.{ints}
use Rattle.block_geom.specs.Figure.{Supply, Vss, Vdd, Shape, Name, Power, Bit, In}
use Rattle.block_geom.specs.Block.{Block, IsSound, Net, PowerNet, Signal, Tagged, at_x, rail_y, pin_column, pin_row, shapes, Terminal, AtPort, AtPin, Exists, net_of, AreJoined, JoinsAsNets, terminal_at}
use Rattle.block_geom.specs.Breach.{HasNoBreach}
use Rattle.block_geom.specs.Tracks.{strap_column, blank_lines}
use Rattle.block_geom.specs.Joined.{same}
use Rattle.block_geom.proofs.Lists.{In_left, In_right, In_up_to, In_map}
use Rattle.block_geom.proofs.Plan.{Plan, IsPlan, Kind, of_line, of_instance}
use Rattle.block_geom.proofs.Only.{kind}
use Rattle.block_geom.proofs.Bridges.{Point, Bridge, IsAt, Bridge_sym, Bridge_trans, segment_bridge, via_bridge, port_at, pin_at, strip_at}
use Rattle.block_geom.proofs.TracksAll.{Reaches, reach_joined, IsKnown}
use Rattle.block_geom.proofs.Gaps.{IsSupplied, rail_point, no_breach_at_all}
use Rattle.maze_geom.specs.Maze.{Node, Routes, port_row, above, pin_foot, port_node, wire_line, via_line, maze_port, maze_ports, net_lines, maze_nets, rail_line_at, rail_vias, strap_lines, rail_lines, row_supplies, supply_port, maze_lines, IsWired, IsStep, along, up, down, IsWay, stay, step, IsAttachedAt, port_attached, pin_attached, AreConnected, IsComplete, KeepsNets}
use Rattle.maze_geom.proofs.Maze.{nodes_of, rail_order, maze_plan, maze_only}

-- what a shape of a drawing that fits a plan may be: its instance is there, and its name is that of a terminal
pub known_of : (b : Block) (owns : Plan) (ts : List Tagged) → IsSound b → IsPlan b owns ts → (s : Shape) → In s (shapes b ts) → IsKnown b s
known_of b owns ts sound plan s h = by (kind b owns ts sound plan s h)
  where
    by : Kind b owns ts s → IsKnown b s
    by (of_line f) = record { owner = λ i e. absurd (let a = f.owner in cc); name = λ m e. subst (λ o. Exists b (terminal_at o m)) (sym f.owner) (f.ports m e) }
    by (of_instance f) =
        let a : s.owner ≡ Some f.i = ap (λ v. v.owner) f.is in
        record { owner = λ i e. let c : f.i ≡ i = cc in subst (λ v. v < b.count) c f.instance; name = λ m e. subst (λ o. Exists b (terminal_at o m)) (sym a) (there m (sym (ap (λ v. v.name) f.is) ∙ e)) }
      where
        there : (m : Name) → f.inner.name ≡ Some m → Exists b (AtPin f.i m)
        there (Power u) e = f.instance
        there (Bit p) e = (f.instance, (sound.cells f.i f.instance).names f.inner p f.within e)

abbrev pub point_of : Node → Point
point_of p = record { metal = p.metal; x = at_x p.column; y = at_x p.row }

module _ (b : Block) (r : Routes) (sound : IsSound b) (wired : IsWired b r) where
  pub maze_known : (s : Shape) → In s (shapes b (maze_lines b r)) → IsKnown b s
  maze_known s h = known_of b (nodes_of b r) (maze_lines b r) sound (maze_plan b r sound wired) s h

  in_ports : (t : Tagged) → In t (supply_port Vss ∷ (supply_port Vdd ∷ maze_ports b r)) → In t (maze_lines b r)
  in_ports t h = In_left (supply_port Vss ∷ (supply_port Vdd ∷ maze_ports b r)) (blank_lines b ++ (row_supplies b ++ maze_nets b r)) t h

  in_supplies : (t : Tagged) → In t (row_supplies b) → In t (maze_lines b r)
  in_supplies t h =
      In_right (supply_port Vss ∷ (supply_port Vdd ∷ maze_ports b r)) (blank_lines b ++ (row_supplies b ++ maze_nets b r)) t
      (In_right (blank_lines b) (row_supplies b ++ maze_nets b r) t (In_left (row_supplies b) (maze_nets b r) t h))

  in_net : (n : ℕ) (t : Tagged) → n < b.nets → In t (net_lines r n) → In t (maze_lines b r)
  in_net n t lt h =
      In_right (supply_port Vss ∷ (supply_port Vdd ∷ maze_ports b r)) (blank_lines b ++ (row_supplies b ++ maze_nets b r)) t
      (In_right (blank_lines b) (row_supplies b ++ maze_nets b r) t
      (In_right (row_supplies b) (maze_nets b r) t (In_up_to b.nets (net_lines r) t n lt h)))

  in_rails : (j : ℕ) (u : Supply) → j < b.rows → In (rail_line_at b j u) (maze_lines b r)
  in_rails j u lt =
      in_supplies (rail_line_at b j u)
      (In_left (rail_lines b) (strap_lines b Vss ++ strap_lines b Vdd) (rail_line_at b j u)
      (In_up_to b.rows (λ j. rail_line_at b j Vss ∷ (rail_line_at b j Vdd ∷ [])) (rail_line_at b j u) j lt (first u)))
    where
      first : (u : Supply) → In (rail_line_at b j u) (rail_line_at b j Vss ∷ (rail_line_at b j Vdd ∷ []))
      first Vss = inl refl
      first Vdd = inr (inl refl)

  in_straps : (u : Supply) (t : Tagged) → In t (strap_lines b u) → In t (maze_lines b r)
  in_straps u t h = in_supplies t (In_right (rail_lines b) (strap_lines b Vss ++ strap_lines b Vdd) t (either u h))
    where
      either : (u : Supply) → In t (strap_lines b u) → In t (strap_lines b Vss ++ strap_lines b Vdd)
      either Vss h = In_left (strap_lines b Vss) (strap_lines b Vdd) t h
      either Vdd h = In_right (strap_lines b Vss) (strap_lines b Vdd) t h

  -- ---- supplies
  rail_bridge : (j : ℕ) (u : Supply) (x : ℕ) → j < b.rows → 500 ≤ x → x ≤ 1500 + 500 * b.columns → Bridge (shapes b (maze_lines b r)) (record { metal = 1; x = pos x; y = pos (rail_y j u) }) (rail_point j u)
  rail_bridge j u x lt le ge =
      segment_bridge b (maze_lines b r) (PowerNet u) 1 600 _ (pos 500) (pos (rail_y j u)) (pos (1500 + 500 * b.columns)) (pos (rail_y j u)) (record { metal = 1; x = pos x; y = pos (rail_y j u) }) (rail_point j u) (in_rails j u lt) refl refl
      (omega (arith, ints)) (omega (arith, ints)) (omega (arith, ints)) (omega (arith, ints)) (omega (arith, ints)) (omega (arith, ints)) (omega (arith, ints)) (omega (arith, ints))

  abbrev strap_point : ℕ → Supply → ℕ → Point
  strap_point j u m = record { metal = m; x = at_x (strap_column u); y = pos (rail_y j u) }

  -- from a rail up to the strap
  to_strap : (j : ℕ) (u : Supply) → j < b.rows → Bridge (shapes b (maze_lines b r)) (rail_point j u) (strap_point j u 3)
  to_strap j u lt =
      let v1 = via_bridge b (maze_lines b r) (PowerNet u) 1 (at_x (strap_column u)) (pos (rail_y j u)) (in_straps u _ (inr (In_up_to b.rows (rail_vias u) _ j lt (inl refl)))) in
      let v2 = via_bridge b (maze_lines b r) (PowerNet u) 2 (at_x (strap_column u)) (pos (rail_y j u)) (in_straps u _ (inr (In_up_to b.rows (rail_vias u) _ j lt (inr (inl refl))))) in
      let a = rail_bridge j u (500 * strap_column u) lt (start u) (end u) in
      Bridge_trans _ (rail_point j u) (strap_point j u 1) (strap_point j u 3) (Bridge_sym _ (strap_point j u 1) (rail_point j u) a)
      (Bridge_trans _ (strap_point j u 1) (strap_point j u 2) (strap_point j u 3) v1 v2)
    where
      start : (u : Supply) → 500 ≤ 500 * strap_column u
      start Vss = omega arith
      start Vdd = omega arith

      end : (u : Supply) → 500 * strap_column u ≤ 1500 + 500 * b.columns
      end Vss = omega arith
      end Vdd = omega arith

  on_strap : (j k : ℕ) (u : Supply) → j < b.rows → k < b.rows → Bridge (shapes b (maze_lines b r)) (strap_point j u 3) (strap_point k u 3)
  on_strap j k u hj hk =
      let a = rail_order 0 j u (omega arith) in let c = rail_order j (b.rows - 1) u (omega arith) in
      let d = rail_order 0 k u (omega arith) in let e = rail_order k (b.rows - 1) u (omega arith) in
      let f = self u in
      segment_bridge b (maze_lines b r) (PowerNet u) 3 200 _ (at_x (strap_column u)) (pos (rail_y 0 u)) (at_x (strap_column u)) (pos (rail_y (b.rows - 1) u)) (strap_point j u 3) (strap_point k u 3) (in_straps u _ (inl refl)) refl refl
      f f (omega (arith, ints)) (omega (arith, ints)) f f (omega (arith, ints)) (omega (arith, ints))
    where
      self : (u : Supply) → at_x (strap_column u) ≤ℤ at_x (strap_column u)
      self Vss = omega (arith, ints)
      self Vdd = omega (arith, ints)

  supplied : IsSupplied b (maze_lines b r)
  supplied = record {
    rail = λ j u lt. in_rails j u lt;
    one = λ j k u hj hk. Bridge_trans _ (rail_point j u) (strap_point j u 3) (rail_point k u) (to_strap j u hj) (Bridge_trans _ (strap_point j u 3) (strap_point k u 3) (rail_point k u) (on_strap j k u hj hk) (Bridge_sym _ (rail_point k u) (strap_point k u 3) (to_strap k u hk)));
  }

  pub maze_clean : HasNoBreach (shapes b (maze_lines b r))
  maze_clean = no_breach_at_all b (nodes_of b r) (maze_lines b r) sound (maze_plan b r sound wired) supplied

  -- ---- points of terminals
  at_self : (t : Terminal) (p : Point) → IsAt (shapes b (maze_lines b r)) t p → Reaches (shapes b (maze_lines b r)) t p
  at_self t p f = record { from = p; at = f; bridge = record { from = f.shape; to = f.shape; from_in = f.within; to_in = f.within; from_holds = f.holds; to_holds = f.holds; joined = same } }

  supply_port_in : (u : Supply) → In (supply_port u) (maze_lines b r)
  supply_port_in Vss = in_ports (supply_port Vss) (inl refl)
  supply_port_in Vdd = in_ports (supply_port Vdd) (inr (inl refl))

  port_in : (k : ℕ) → k < b.ports → In (maze_port b r k) (maze_lines b r)
  port_in k lt = in_ports (maze_port b r k) (inr (inr (In_up_to b.ports (λ k. maze_port b r k ∷ []) (maze_port b r k) k lt (inl refl))))

  supply_port_at : (u : Supply) → IsAt (shapes b (maze_lines b r)) (AtPort (Power u)) (rail_point 0 u)
  supply_port_at u = port_at b (maze_lines b r) (PowerNet u) 1 600 (pos 500) (pos (rail_y 0 u)) (Power u) (supply_port_in u)

  signal_port_at : (k : ℕ) → k < b.ports → IsAt (shapes b (maze_lines b r)) (AtPort (Bit k)) (point_of (port_node b r k))
  signal_port_at k lt = port_at b (maze_lines b r) (Signal (b.port_net k)) 3 200 (at_x (r.port_column k)) (at_x (port_row b.rows)) (Bit k) (port_in k lt)

  some_at : (t : Terminal) → Exists b t → (p : Point) × IsAt (shapes b (maze_lines b r)) t p
  some_at (AtPort (Power u)) h = (rail_point 0 u, supply_port_at u)
  some_at (AtPort (Bit k)) h = (point_of (port_node b r k), signal_port_at k h)
  some_at (AtPin i (Power u)) h = (record { metal = 1; x = pos (500 * b.column i + 250); y = pos (rail_y (b.row i) u) }, strip_at b (maze_lines b r) sound i u h)
  some_at (AtPin i (Bit p)) h = (record { metal = 1; x = at_x (pin_column b i p); y = at_x (pin_row b i p) }, pin_at b (maze_lines b r) sound i p h.0 h.1)

  -- a terminal is joined to itself
  itself : (t : Terminal) → Exists b t → AreJoined (shapes b (maze_lines b r)) t t
  itself t h = let a = some_at t h in let f = at_self t a.0 a.1 in reach_joined (shapes b (maze_lines b r)) t t a.0 f f

  supply_reaches : (t : Terminal) (u : Supply) → Exists b t → net_of b t ≡ PowerNet u → Reaches (shapes b (maze_lines b r)) t (rail_point 0 u)
  supply_reaches (AtPort (Power v)) u h e =
      let q : v ≡ u = cc in
      subst (λ w. Reaches (shapes b (maze_lines b r)) (AtPort (Power v)) (rail_point 0 w)) q (at_self (AtPort (Power v)) (rail_point 0 v) (supply_port_at v))
  supply_reaches (AtPort (Bit k)) u h e = absurd (cc)
  supply_reaches (AtPin i (Power v)) u h e =
      let q : v ≡ u = cc in
      let w = (sound.cells i h).wide in let st = sound.start i h in let d = sound.end i h in let k = wired.rows in
      subst (λ w. Reaches (shapes b (maze_lines b r)) (AtPin i (Power v)) (rail_point 0 w)) q
      (record {
        from = record { metal = 1; x = pos (500 * b.column i + 250); y = pos (rail_y (b.row i) v) };
        at = strip_at b (maze_lines b r) sound i v h;
        bridge = Bridge_trans _ _ (rail_point (b.row i) v) (rail_point 0 v) (rail_bridge (b.row i) v (500 * b.column i + 250) (sound.row i h) (omega arith) (omega arith)) (supplied.one (b.row i) 0 v (sound.row i h) (omega arith));
      })
  supply_reaches (AtPin i (Bit p)) u h e = absurd (cc)

  supplies_join : (t u : Terminal) (s : Supply) → Exists b t → Exists b u → net_of b t ≡ PowerNet s → net_of b u ≡ PowerNet s → AreJoined (shapes b (maze_lines b r)) t u
  supplies_join t u s ht hu e f = reach_joined (shapes b (maze_lines b r)) t u (rail_point 0 s) (supply_reaches t s ht e) (supply_reaches u s hu f)

  pub keeps_nets : KeepsNets b (shapes b (maze_lines b r))
  keeps_nets = record { only = λ t u ht hu j. maze_only b r sound wired t u j; supplies = supplies_join; itself = itself }

  -- ---- signals
  via_step : (n : ℕ) (p q : Node) → n < b.nets → In p (r.vias n) → q ≡ above p → Bridge (shapes b (maze_lines b r)) (point_of p) (point_of q)
  via_step n p q lt h e =
      subst (λ w. Bridge (shapes b (maze_lines b r)) (point_of p) (point_of w)) (sym e)
      (via_bridge b (maze_lines b r) (Signal n) p.metal (at_x p.column) (at_x p.row)
      (in_net n (via_line n p) lt (In_right (map (wire_line n) (r.wires n)) (map (via_line n) (r.vias n)) (via_line n p) (In_map (via_line n) (r.vias n) p h))))

  step_bridge : (n : ℕ) (p q : Node) → n < b.nets → IsStep r n p q → Bridge (shapes b (maze_lines b r)) (point_of p) (point_of q)
  step_bridge n p q lt (along w h e f a1 a2 a3 a4 b1 b2 b3 b4) =
      segment_bridge b (maze_lines b r) (Signal n) w.metal 200 _ (at_x w.c1) (at_x w.r1) (at_x w.c2) (at_x w.r2) (point_of p) (point_of q)
      (in_net n (wire_line n w) lt (In_left (map (wire_line n) (r.wires n)) (map (via_line n) (r.vias n)) (wire_line n w) (In_map (wire_line n) (r.wires n) w h))) e f
      (omega (arith, ints)) (omega (arith, ints)) (omega (arith, ints)) (omega (arith, ints)) (omega (arith, ints)) (omega (arith, ints)) (omega (arith, ints)) (omega (arith, ints))
  step_bridge n p q lt (up h e) = via_step n p q lt h e
  step_bridge n p q lt (down h e) = Bridge_sym _ (point_of q) (point_of p) (via_step n q p lt h e)

  follow : (n : ℕ) (t : Terminal) (p q : Node) → n < b.nets → IsWay r n p q → Reaches (shapes b (maze_lines b r)) t (point_of p) → Reaches (shapes b (maze_lines b r)) t (point_of q)
  follow n t p q lt stay f = f
  follow n t p q lt (step {q = d} s k) f =
      follow n t d q lt k (record { from = f.from; at = f.at; bridge = Bridge_trans (shapes b (maze_lines b r)) f.from (point_of p) (point_of d) f.bridge (step_bridge n p d lt s) })

  attached_reaches : (n : ℕ) (t : Terminal) (p : Node) → Exists b t → IsAttachedAt b r n t p → Reaches (shapes b (maze_lines b r)) t (point_of p)
  attached_reaches n t p h (port_attached k) = at_self (AtPort (Bit k)) (point_of (port_node b r k)) (signal_port_at k h)
  attached_reaches n t p h (pin_attached i q g) = at_self (AtPin i (Bit q)) (point_of (pin_foot b i q)) (pin_at b (maze_lines b r) sound i q h.0 h.1)

  connected : (n : ℕ) (t u : Terminal) → Exists b t → Exists b u → n < b.nets → AreConnected b r n t u → AreJoined (shapes b (maze_lines b r)) t u
  connected n t u ht hu lt c =
      reach_joined (shapes b (maze_lines b r)) t u (point_of c.to)
      (follow n t c.from c.to lt c.way (attached_reaches n t c.from ht c.attached_from)) (attached_reaches n u c.to hu c.attached_to)

  module _ (whole : IsComplete b r) where
    maze_all : (t u : Terminal) → Exists b t → Exists b u → net_of b t ≡ net_of b u → AreJoined (shapes b (maze_lines b r)) t u
    maze_all t u ht hu e = by_net (net_of b u) e refl
      where
        by_net : (n : Net) → net_of b t ≡ n → net_of b u ≡ n → AreJoined (shapes b (maze_lines b r)) t u
        by_net (Signal n) e f =
            ⊎_elim
            (λ s. subst (AreJoined (shapes b (maze_lines b r)) t) s (itself t ht))
            (λ (lt, c). connected n t u ht hu lt c)
            (whole.joined t u n ht hu e f)
        by_net (PowerNet v) e f = supplies_join t u v ht hu e f

    pub maze_join : JoinsAsNets b (shapes b (maze_lines b r))
    maze_join = record { only = λ t u ht hu j. maze_only b r sound wired t u j; all = maze_all }
