-- Routes over the points of nets in memory are routes over those of the netlist of layouts that it is seen as.
use Rattle.std.proofs.Common.{◌≡◌, ℕ, suc, ◌+◌, ◌-◌, ◌/◌, ◌<◌, ◌≤◌, ◌^◌, List, [], ◌∷◌, ◌++◌, length, Option, Some, None, refl, sym, ap, ap₂, ◌∙◌, subst, arith}
use Rattle.std.specs.Prelude.{ℤ, reverse, flat_map, slice_get, slice_index_or}
use Rattle.std.proofs.lemmas.Option.{slice_get_read}
use Rattle.std.proofs.lemmas.List.{reverse-reverse}
use Rattle.std.proofs.lemmas.Nat.{mul-le}
use Rattle.vlsi_base.specs.Member.{In, here, AllDifferent}
use Rattle.vlsi_base.specs.declared.name.Terminal.{Terminal}
use Rattle.cell_model.specs.Library.{Library}
use Rattle.net_core.specs.Netlist.{Netlist as InMemory, InTurn, ended, again, first}
use Rattle.net_core.proofs.Rings.{at_place}
use Rattle.net_meaning.specs.Netlist.{AbstractNetlist}
use Rattle.net_right.specs.View.{IsSeenAs}
use Rattle.net_right.proofs.Terminals.{seen_classes}
use Rattle.ocp_rows.specs.Placement.{natural, block_columns, net_count}
use Rattle.ocp_place.specs.Nets.{net_number}
use Rattle.ocp_place.specs.Placed.{InRow, AreRowsOf, IsRowPlacementOf, rows_of, stood_in}
use Rattle.ocp_place.proofs.Classes.{known, known_seen}
use Rattle.grid_core.specs.declared.grid.Grid.{Grid}
use Rattle.grid_core.specs.declared.grid.Node.{Node}
use Rattle.grid_core.specs.Grid.{above}
use Rattle.grid_core.specs.Numbers.{plane, nodes}
use Rattle.grid_core.specs.Routes.{Tree, NetRoutes}
use Rattle.grid_core.specs.Trees.{AreRoutes, AreWhole, AreDone, IsNetOrder, IsStuckAt}
use Rattle.grid_core.proofs.Lists.{In_first, In_last}
use Rattle.maze_nets.specs.declared.points.NetPoints.{NetPoints}
use Rattle.maze_nets.specs.Nets.{net_points, net_reserved, half_perimeter, half_box, AreRoutable}
use Rattle.maze_nets.specs.Nets as maze
use Rattle.maze_nets.specs.Answers.{AreOrdered, AreStuck}
use Rattle.maze_nets.proofs.Lists.{get_below, reserved_below}
use Rattle.maze_nets.proofs.Taking.{In_reverse}
use Rattle.ocp_grid.specs.Law.{ArePointsApart, PointsAreApart, PlacementsAreInRows}
use Rattle.ocp_grid.specs.Points.{grid_of, nodes_of, reserved_of, ArePointsOf, ArePointsIn, HasFewNodes}
use Rattle.nero_nets.specs.Routed.{net_reach, net_terminals, AreInOrder, IsStuckBefore}
use Rattle.nero_nets.specs.Answers.{AreRouted}
use Rattle.nero_nets.proofs.Pins.{few_points}
use Rattle.nero_nets.proofs.Congruent.{AreSame, order_same, routes_same, whole_same, done_same, stuck_same}

In_back : (xs : List ℕ) (x : ℕ) → In x xs → In x (reverse xs)
In_back xs x i = In_reverse (reverse xs) x (subst (λ zs. In x zs) (sym (reverse-reverse xs)) i)

module _ (k : AbstractNetlist) (l : Library) (p : InRow) (nets : List NetPoints) (are : ArePointsOf k l p nets) where
  pub same_points : AreSame (length nets) (net_points nets) (nodes_of k l p)
  same_points j low =
      let at = at_place nets j low in
      let is = are.each j at.0 at.1 in
      ap (maze.nodes_of maze.points_of) at.1 ∙ ap₂ (λ (a b : List Node). a ++ b) is.port is.terminals

  pub same_reserved : AreSame (length nets) (net_reserved nets) (reserved_of k l p)
  same_reserved j low =
      let at = at_place nets j low in
      let is = are.each j at.0 at.1 in
      ap (maze.nodes_of maze.reserved_of) at.1 ∙ ap₂ (λ (a b : List Node). a ++ flat_map (λ q. q ∷ above q ∷ []) b) is.port is.terminals

  same_reach : AreSame (length nets) (half_perimeter nets) (net_reach k l (net_number k l) (rows_of k p) (stood_in k p))
  same_reach j low = ap half_box (same_points j low)

  -- ---- what routing asks of them

  pub routable : (g : Grid) → ArePointsApart g (net_count k) (nodes_of k l p) (reserved_of k l p) → AreRoutable g nets
  routable g apart = record {
    within = λ j q i. apart.within j q (below j q i) (moved j q i);
    alone = λ i j q a b. apart.alone i j q (below i q a) (below j q b) (moved i q a) (moved j q b);
    different = λ j. by j (slice_get nets j) refl;
  } where
    below : (j : ℕ) (q : Node) → In q (net_reserved nets j) → j < net_count k
    below j q i = subst (λ (m : ℕ). j < m) are.many (reserved_below nets j q i)

    moved : (j : ℕ) (q : Node) → In q (net_reserved nets j) → In q (reserved_of k l p j)
    moved j q i = subst (λ qs. In q qs) (same_reserved j (reserved_below nets j q i)) i

    by : (j : ℕ) (o : Option NetPoints) → slice_get nets j ≡ o → AllDifferent (net_points nets j)
    by j None e = subst (λ qs. AllDifferent qs) (sym (ap (maze.nodes_of maze.points_of) e)) tt
    by j (Some x) e =
        let low = get_below nets j x e in
        subst (λ qs. AllDifferent qs) (sym (same_points j low)) (apart.different j (subst (λ (m : ℕ). j < m) are.many low))

  -- ---- what it gives

  module _ (metals : ℕ) (routes : NetRoutes) where
    abbrev g : Grid
    g = grid_of metals k l p

    pub are_routes : AreRoutes g (net_reserved nets) (net_points nets) (length nets) routes → AreRoutes g (reserved_of k l p) (nodes_of k l p) (net_count k) routes
    are_routes h =
        subst (λ (m : ℕ). AreRoutes g (reserved_of k l p) (nodes_of k l p) m routes) are.many
        (routes_same g (length nets) (net_reserved nets) (reserved_of k l p) (net_points nets) (nodes_of k l p) same_reserved same_points routes h)

    pub are_whole : AreWhole (net_points nets) (length nets) routes → AreWhole (nodes_of k l p) (net_count k) routes
    are_whole h =
        subst (λ (m : ℕ). AreWhole (nodes_of k l p) m routes) are.many
        (whole_same g (length nets) (net_reserved nets) (reserved_of k l p) (net_points nets) (nodes_of k l p) same_reserved same_points routes h)

    pub sorted_as : (order : List ℕ) → IsNetOrder (half_perimeter nets) (length nets) order
        → IsNetOrder (net_reach k l (net_number k l) (rows_of k p) (stood_in k p)) (net_count k) order
    sorted_as order h =
        subst (λ (m : ℕ). IsNetOrder (net_reach k l (net_number k l) (rows_of k p) (stood_in k p)) m order) are.many
        (order_same (half_perimeter nets) (net_reach k l (net_number k l) (rows_of k p) (stood_in k p)) (length nets) order same_reach h)

    pub in_order : AreOrdered g nets routes → AreInOrder k l (net_number k l) (rows_of k p) (stood_in k p) metals routes
    in_order o = record {
      order = o.order;
      sorted = sorted_as o.order o.sorted;
      done = subst (λ (m : ℕ). AreDone g (reserved_of k l p) (nodes_of k l p) m routes (reverse o.order)) are.many
          (done_same g (length nets) (net_reserved nets) (reserved_of k l p) (net_points nets) (nodes_of k l p) same_reserved same_points routes (reverse o.order)
          (λ j i. (o.sorted.each j).0 (In_reverse o.order j i)) o.done);
    }

    pub net_there : (net at : ℕ) → AreStuck g nets routes net at → net < length nets
    net_there net at s = (s.sorted.each net).0 (In_last (reverse s.earlier) (net ∷ s.later) net here)

    pub point_there : (net at : ℕ) → AreStuck g nets routes net at → at < length (nodes_of k l p net)
    point_there net at s =
        get_below (nodes_of k l p net) at s.point (subst (λ qs. slice_get qs at ≡ Some s.point) (same_points net (net_there net at s)) s.numbered)

    pub stuck_before : (net at : ℕ) (t : Terminal) → AreStuck g nets routes net at → slice_get (net_terminals k l (net_number k l) (rows_of k p) (stood_in k p) net) at ≡ Some t
        → IsStuckBefore k l (net_number k l) (rows_of k p) (stood_in k p) metals routes net t
    stuck_before net at t s named =
        let stuck = subst (λ (m : ℕ). IsStuckAt g (reserved_of k l p) (nodes_of k l p) m routes s.earlier s.later net s.point) are.many
        (stuck_same g (length nets) (net_reserved nets) (reserved_of k l p) (net_points nets) (nodes_of k l p) same_reserved same_points routes s.earlier s.later net s.point
        (net_there net at s) (λ j i. (s.sorted.each j).0 (In_first (reverse s.earlier) (net ∷ s.later) j (In_back s.earlier j i))) s.stuck) in
        let both : Some stuck.tree ≡ Some s.stuck.tree = sym stuck.begun ∙ s.stuck.begun in
        let same : stuck.tree ≡ s.stuck.tree = cc both in
        record {
          earlier = s.earlier;
          later = s.later;
          sorted = sorted_as (reverse s.earlier ++ net ∷ s.later) s.sorted;
          at = at;
          point = s.point;
          named = named;
          numbered = subst (λ qs. slice_get qs at ≡ Some s.point) (same_points net (net_there net at s)) s.numbered;
          stuck = stuck;
          number = ap (λ (x : Tree). suc (length x.paths)) same ∙ s.number;
        }

-- ---- sizes

-- there are no more classes than terminals
turn_few : (met count : ℕ) (ks : List ℕ) → InTurn met ks count → count ≤ met + length ks
turn_few met count ks ended = omega arith
turn_few met count ks (again {rest = rest} low h) = let a = turn_few met count rest h in omega (arith, a)
turn_few met count ks (first {rest = rest} h) = let a = turn_few (met + 1) count rest h in omega (arith, a)

module _ (l : Library) (n : InMemory) (p : InRow) (placed : IsRowPlacementOf l n p) where
  abbrev one : AbstractNetlist
  one = known n

  pub one_seen : IsSeenAs n one
  one_seen = known_seen n placed.drawable.sound

  pub width_is : (k : AbstractNetlist) → IsSeenAs n k → block_columns l (rows_of k p) ≡ p.width / 500
  width_is k seen = ap (λ (z : ℤ). natural z / 500) (sym (placed.rows k seen).width)

  pub few_columns : (metals : ℕ) → 3 ≤ metals → HasFewNodes l n p metals → p.width / 500 < 4294967295
  few_columns metals some few =
      let g = grid_of metals one l p in
      let a = few one one_seen in
      let b = mul-le g.columns 1 g.columns g.rows (omega arith) (omega arith) in
      let c = mul-le (plane g) 1 (plane g) (metals - 1) (omega arith) (omega (arith, some)) in
      let e = width_is one one_seen in
      omega (arith, a, b, c, e)

  pub few_nets : length n.classes < 2 ^ 32 → (nets : List NetPoints) → ArePointsIn l n p nets → length nets < 4294967295
  few_nets few nets are =
      let a = (are one one_seen).many in
      let b = seen_classes n one one_seen in
      let c = turn_few 0 n.count n.classes placed.drawable.sound.turns in
      omega (arith, few, a, b, c)

-- ---- of a netlist in memory

module _ (l : Library) (n : InMemory) (p : InRow) (metals : ℕ) (placed : IsRowPlacementOf l n p) (some : 3 ≤ metals) (nets : List NetPoints) (are : ArePointsIn l n p nets) (g : Grid)
    (is : (c : Library) (k : AbstractNetlist) → AreRowsOf k c p → g ≡ grid_of metals k c p) where
  pub grid_is : (k : AbstractNetlist) → IsSeenAs n k → g ≡ grid_of metals k l p
  grid_is k seen = is l k (placed.rows k seen)

  abbrev any : AbstractNetlist
  any = known n

  pub few_nodes : HasFewNodes l n p metals → nodes g < 4294967295
  few_nodes few = subst (λ (x : Grid). nodes x < 4294967295) (sym (grid_is any (one_seen l n p placed))) (few any (one_seen l n p placed))

  pub routable_all : PointsAreApart → PlacementsAreInRows → AreRoutable g nets
  routable_all apart in_rows =
      let seen = one_seen l n p placed in
      routable any l p nets (are any seen) g
      (subst (λ (x : Grid). ArePointsApart x (net_count any) (nodes_of any l p) (reserved_of any l p)) (sym (grid_is any seen))
      (apart any l (net_number any l) (rows_of any p) (stood_in any p) metals (in_rows l n p any placed seen) some))

  module _ (routes : NetRoutes) where
    pub trees_as : (k : AbstractNetlist) → IsSeenAs n k → AreRoutes g (net_reserved nets) (net_points nets) (length nets) routes
        → AreRoutes (grid_of metals k l p) (reserved_of k l p) (nodes_of k l p) (net_count k) routes
    trees_as k seen h =
        are_routes k l p nets (are k seen) metals routes (subst (λ (x : Grid). AreRoutes x (net_reserved nets) (net_points nets) (length nets) routes) (grid_is k seen) h)

    pub routed : AreRoutes g (net_reserved nets) (net_points nets) (length nets) routes → AreWhole (net_points nets) (length nets) routes → AreOrdered g nets routes
        → AreRouted l n p metals routes
    routed h whole ordered = record {
      trees = λ k seen. trees_as k seen h;
      whole = λ k seen. are_whole k l p nets (are k seen) metals routes whole;
      ordered = λ k seen. in_order k l p nets (are k seen) metals routes (subst (λ (x : Grid). AreOrdered x nets routes) (grid_is k seen) ordered);
    }

    stuck_as : (net at : ℕ) → AreStuck g nets routes net at → (k : AbstractNetlist) → IsSeenAs n k → AreStuck (grid_of metals k l p) nets routes net at
    stuck_as net at stuck k seen = subst (λ (x : Grid). AreStuck x nets routes net at) (grid_is k seen) stuck

    pub net_known : (net at : ℕ) → AreStuck g nets routes net at → (k : AbstractNetlist) → IsSeenAs n k → net < net_count k
    net_known net at stuck k seen = subst (λ (m : ℕ). net < m) (are k seen).many (net_there k l p nets (are k seen) metals routes net at (stuck_as net at stuck k seen))

    -- where the terminals of the net are these
    module _ (net at : ℕ) (stuck : AreStuck g nets routes net at) (terminals : List Terminal)
        (named : (k : AbstractNetlist) → IsSeenAs n k → terminals ≡ net_terminals k l (net_number k l) (rows_of k p) (stood_in k p) net) where
      pub terminal_there : at < length terminals
      terminal_there =
          let seen = one_seen l n p placed in
          let a = point_there any l p nets (are any seen) metals routes net at (stuck_as net at stuck any seen) in
          let b = few_points any l (net_number any l) net (rows_of any p) (stood_in any p) in
          let c = ap length (named any seen) in
          omega (arith, a, b, c)

      pub refused : (t : Terminal) → t ≡ slice_index_or terminals at t → (k : AbstractNetlist) → IsSeenAs n k
          → IsStuckBefore k l (net_number k l) (rows_of k p) (stood_in k p) metals routes net t
      refused t e k seen =
          stuck_before k l p nets (are k seen) metals routes net at t (stuck_as net at stuck k seen)
          (subst (λ ts. slice_get ts at ≡ Some t) (named k seen) (slice_get_read terminals (length terminals) at t refl terminal_there e))
