-- Nets whose terminals stand at different places are such that they can be routed: what is reserved for each is for it alone.
use Rattle.std.proofs.Common.{◌≡◌, ℕ, ◌+◌, ◌*◌, ◌/◌, ◌%◌, ◌<◌, ◌≤◌, ◌⊎◌, inl, inr, ⊎_elim, List, [], ◌∷◌, ◌++◌, Option, Some, None, All, refl, sym, ap, subst, ◌∙◌, arith}
use Rattle.std.specs.Prelude.{flat_map, slice_get}
use Rattle.std.proofs.Math.Nat.{mul_comm}
use Rattle.std.proofs.lemmas.Nat.{div-add-mod', div_below, mod_below}
use Rattle.vlsi_base.specs.Member.{In, here, there, AllDifferent}
use Rattle.grid_core.specs.declared.grid.Grid.{Grid}
use Rattle.grid_core.specs.declared.grid.Node.{Node}
use Rattle.grid_core.specs.Grid.{IsInGrid, above}
use Rattle.grid_core.proofs.Lists.{In_either}
use Rattle.maze_nets.specs.declared.points.NetPoints.{NetPoints}
use Rattle.maze_nets.specs.Nets.{port_node, points_of, reserved_of, nodes_of, net_points, net_reserved, AreRoutable}
use Rattle.maze_probe.specs.Spots.{terminal_at, AreNetsOn}
use Rattle.maze_probe.proofs.Members.{all_in, all_get, map_back, different_map, flat_in, flat_each, flat_alone}

one_place : (columns x y : ℕ) → terminal_at columns x ≡ terminal_at columns y → x ≡ y
one_place columns x y e =
    let column : x % columns ≡ y % columns = ap (λ (p : Node). p.column) e in
    let row : x / columns ≡ y / columns = ap (λ (p : Node). p.row) e in
    sym (div-add-mod' x columns) ∙ ap (λ (k : ℕ). k * columns + x % columns) row ∙ ap (λ (k : ℕ). y / columns * columns + k) column ∙ div-add-mod' y columns

-- the node of the lowest metal at a node's place
abbrev lowest : Node → Node
lowest p = record { metal = 2; column = p.column; row = p.row }

abbrev terminals_of : NetPoints → List Node
terminals_of net = net.terminals.items

reserved_from : (xs : List Node) (p : Node) → In p (flat_map (λ q. q ∷ above q ∷ []) xs) → (q : Node) × In q xs × ((p ≡ q) ⊎ (p ≡ above q))
reserved_from (x ∷ xs) p here = (x, here, inl refl)
reserved_from (x ∷ xs) p (there here) = (x, here, inr refl)
reserved_from (x ∷ xs) p (there (there i)) = let r = reserved_from xs p i in (r.0, there r.1, r.2)
reserved_from [] p i = elim i [ ]

-- a net for which a node is reserved, and the node of its terminal
record Reserves (columns : ℕ) (places : List ℕ) (nets : List NetPoints) (k : ℕ) (p : Node) : Type 0 where
  net : NetPoints
  at : slice_get nets k ≡ Some net
  terminal : In (lowest p) (terminals_of net)
  place : ℕ
  placed : In place places
  stands : lowest p ≡ terminal_at columns place
  high : (p ≡ lowest p) ⊎ (p ≡ above (lowest p))

module _ (g : Grid) (pins : ℕ) (places : List ℕ) (nets : List NetPoints) (on : AreNetsOn g.columns pins places nets) where
  no_port : (k : ℕ) (net : NetPoints) → slice_get nets k ≡ Some net → port_node net.port ≡ []
  no_port k net e = ap port_node (all_get (λ (n : NetPoints). n.port ≡ None) nets k net on.portless e)

  reserves : (k : ℕ) (p : Node) → In p (net_reserved nets k) → Reserves g.columns places nets k p
  reserves k p i = by (slice_get nets k) refl i
    where
      with_terminal : (net : NetPoints) → slice_get nets k ≡ Some net → (q : Node) → In q (terminals_of net) → (p ≡ q) ⊎ (p ≡ above q) → Reserves g.columns places nets k p
      with_terminal net e q i either =
          let r = map_back (terminal_at g.columns) places q (subst (λ (qs : List Node). In q qs) on.terminals (flat_in terminals_of nets k net q e i)) in
          let low : q ≡ lowest q = r.2 ∙ ap lowest (sym r.2) in
          let same : q ≡ lowest p = ⊎_elim (λ a. low ∙ ap lowest (sym a)) (λ a. low ∙ ap lowest (sym a)) either in
          record {
            net = net;
            at = e;
            terminal = subst (λ (z : Node). In z (terminals_of net)) same i;
            place = r.0;
            placed = r.1;
            stands = sym same ∙ r.2;
            high = ⊎_elim (λ a. inl (a ∙ same)) (λ a. inr (a ∙ ap above same)) either;
          }

      by : (o : Option NetPoints) → slice_get nets k ≡ o → In p (nodes_of reserved_of o) → Reserves g.columns places nets k p
      by None e i = elim i [ ]
      by (Some net) e i =
          ⊎_elim (λ a. absurd (let b = subst (λ (qs : List Node). In p qs) (no_port k net e) a in let no : ⊥ = elim b [ ] in no))
          (λ a. let r = reserved_from (terminals_of net) p a in with_terminal net e r.0 r.1 r.2)
          (In_either (port_node net.port) (flat_map (λ q. q ∷ above q ∷ []) (terminals_of net)) p i)

  module _ (metals : 3 ≤ g.metals) (wide : 0 < g.columns) (below : All (λ place. place < g.columns * g.rows) places) (different : AllDifferent places) where
    all_different : AllDifferent (flat_map terminals_of nets)
    all_different = subst (λ (qs : List Node). AllDifferent qs) (sym on.terminals) (different_map (terminal_at g.columns) places (one_place g.columns) different)

    in_grid : (k : ℕ) (p : Node) → In p (net_reserved nets k) → IsInGrid g p
    in_grid k p i =
        let r = reserves k p i in
        let small : r.place < g.columns * g.rows = all_in (λ place. place < g.columns * g.rows) places r.place below r.placed in
        let column : p.column ≡ r.place % g.columns = ap (λ (q : Node). q.column) r.stands in
        let row : p.row ≡ r.place / g.columns = ap (λ (q : Node). q.row) r.stands in
        let left = mod_below r.place g.columns wide in
        let top = div_below r.place g.columns g.rows wide (subst (λ (n : ℕ). r.place < n) (mul_comm g.columns g.rows) small) in
        let metal : (p.metal ≡ 2) ⊎ (p.metal ≡ 3) = ⊎_elim (λ a. inl (ap (λ (q : Node). q.metal) a)) (λ a. inr (ap (λ (q : Node). q.metal) a)) r.high in
        record {
          low = elim metal [ inl e ↦ omega (arith, e) | inr e ↦ omega (arith, e) ];
          high = elim metal [ inl e ↦ omega (arith, e) | inr e ↦ omega (arith, e) ];
          column = omega (arith, column, left);
          row = omega (arith, row, top);
        }

    points_differ : (k : ℕ) → AllDifferent (net_points nets k)
    points_differ k = by (slice_get nets k) refl
      where
        by : (o : Option NetPoints) → slice_get nets k ≡ o → AllDifferent (nodes_of points_of o)
        by None e = tt
        by (Some net) e = subst (λ (qs : List Node). AllDifferent (qs ++ terminals_of net)) (sym (no_port k net e)) (flat_each terminals_of nets k net all_different e)

    pub routable : AreRoutable g nets
    routable = record {
      within = in_grid;
      alone = λ j k p a b.
          let r = reserves j p a in
          let s = reserves k p b in
          flat_alone terminals_of nets j k r.net s.net (lowest p) all_different r.at s.at r.terminal s.terminal;
      different = points_differ;
    }
