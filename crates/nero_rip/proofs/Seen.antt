-- Runs over the points of nets in memory are runs over those of the netlist of layouts that it is seen as.
use Rattle.std.proofs.Common.{◌≡◌, ℕ, ◌<◌, ◌≤◌, List, length, Some, sym, subst, arith}
use Rattle.std.specs.Prelude.{slice_get}
use Rattle.vlsi_base.specs.Member.{In}
use Rattle.vlsi_base.specs.declared.name.Terminal.{Terminal}
use Rattle.cell_model.specs.Library.{Library}
use Rattle.net_core.specs.Netlist.{Netlist as InMemory}
use Rattle.net_meaning.specs.Netlist.{AbstractNetlist}
use Rattle.net_right.specs.View.{IsSeenAs}
use Rattle.ocp_rows.specs.Placement.{net_count}
use Rattle.ocp_place.specs.Nets.{net_number}
use Rattle.ocp_place.specs.Placed.{InRow, AreRowsOf, IsRowPlacementOf, rows_of, stood_in}
use Rattle.grid_core.specs.declared.grid.Grid.{Grid}
use Rattle.grid_core.specs.Routes.{NetRoutes}
use Rattle.grid_core.specs.Trees.{AreRoutes, AreWhole}
use Rattle.maze_nets.specs.declared.points.NetPoints.{NetPoints}
use Rattle.maze_nets.specs.Nets.{net_points, net_reserved}
use Rattle.maze_rips.specs.declared.rip.PointRip.{PointRip}
use Rattle.maze_rips.specs.Run.{IsRipRun, IsSpent}
use Rattle.maze_rips.specs.Answers.{problem, AreStuck}
use Rattle.maze_rips.specs.Answers as maze
use Rattle.ocp_grid.specs.Points.{grid_of, nodes_of, reserved_of, ArePointsIn}
use Rattle.nero_nets.specs.Routed.{net_terminals}
use Rattle.nero_nets.proofs.Pins.{few_points}
use Rattle.nero_nets.proofs.Routed.{same_points, same_reserved, sorted_as, trees_as, are_whole, grid_is}
use Rattle.nero_rip.specs.declared.rip.Rip.{Rip}
use Rattle.nero_rip.specs.Rips.{rows_problem, AreNamed, HasRun}
use Rattle.nero_rip.specs.Answers.{AreRerouted, AreSpent}
use Rattle.maze_rips.proofs.Known.{rips_known}
use Rattle.nero_rip.proofs.Moved.{run_moved, spent_moved, spent_known}
use Rattle.nero_rip.proofs.Named.{named_many}

-- these are the names of the rips, whichever netlist is seen
abbrev pub AreAllNamed : Library → InMemory → InRow → List PointRip → List Rip → Type 0
AreAllNamed l n p rips named = (k : AbstractNetlist) → IsSeenAs n k → AreNamed (net_terminals k l (net_number k l) (rows_of k p) (stood_in k p)) rips named

module _ (l : Library) (n : InMemory) (p : InRow) (metals : ℕ) (placed : IsRowPlacementOf l n p) (some : 3 ≤ metals) (nets : List NetPoints) (are : ArePointsIn l n p nets) (g : Grid)
    (is : (c : Library) (k : AbstractNetlist) → AreRowsOf k c p → g ≡ grid_of metals k c p) where
  -- the terminals of net j
  abbrev terminals : AbstractNetlist → ℕ → List Terminal
  terminals k j = net_terminals k l (net_number k l) (rows_of k p) (stood_in k p) j

  -- a point that a net has is one of its terminals
  pub known_point : (k : AbstractNetlist) → IsSeenAs n k → (j at : ℕ) → j < length nets → at < length (net_points nets j) → (j < net_count k) × (at < length (terminals k j))
  known_point k seen j at low lt =
      let same = same_points k l p nets (are k seen) j low in
      let few = few_points k l (net_number k l) j (rows_of k p) (stood_in k p) in
      let lt' : at < length (nodes_of k l p j) = subst (λ qs. at < length qs) same lt in
      (subst (λ (m : ℕ). j < m) (are k seen).many low, omega (arith, few, lt'))

  pub stuck_point : (allowed : ℕ) (rips : List PointRip) (routes : NetRoutes) (net at : ℕ) → AreStuck g nets allowed rips routes net at → (k : AbstractNetlist) → IsSeenAs n k
      → (net < net_count k) × (at < length (terminals k net))
  stuck_point allowed rips routes net at stuck k seen =
      let h = spent_known (problem g nets stuck.run.order) allowed rips routes net at stuck.spent in
      known_point k seen net at h.0 h.1

  module _ (rips : List PointRip) (routes : NetRoutes) (run : maze.HasRun g nets rips routes) where
    pub known_rip : (r : PointRip) → In r rips → (k : AbstractNetlist) → IsSeenAs n k → (r.net < net_count k) × (r.point < length (terminals k r.net))
    known_rip r i k seen =
        let h = rips_known (problem g nets run.order) run.run.moves run.run.right r (subst (λ rs. In r rs) (sym run.run.made) i) in
        known_point k seen r.net r.point h.net h.point

    run_as : (k : AbstractNetlist) → IsSeenAs n k → IsRipRun (rows_problem k l (net_number k l) (rows_of k p) (stood_in k p) metals run.order) rips routes
    run_as k seen =
        let at = are k seen in
        let moved = run_moved (grid_of metals k l p) (length nets) run.order (net_reserved nets) (reserved_of k l p) (net_points nets) (nodes_of k l p)
        (same_reserved k l p nets at) (same_points k l p nets at) (λ j i. (run.sorted.each j).0 i) rips routes
        (subst (λ (x : Grid). IsRipRun (problem x nets run.order) rips routes) (grid_is l n p metals placed some nets are g is k seen) run.run) in
        subst
        (λ (m : ℕ). IsRipRun (record { grid = grid_of metals k l p; reserved = reserved_of k l p; points = nodes_of k l p; nets = m; order = run.order }) rips routes)
        at.many moved

    pub has_run : (named : List Rip) (k : AbstractNetlist) → IsSeenAs n k → AreNamed (terminals k) rips named
        → HasRun k l (net_number k l) (rows_of k p) (stood_in k p) metals named routes
    has_run named k seen h = record {
      order = run.order;
      sorted = sorted_as k l p nets (are k seen) metals routes run.order run.sorted;
      made = rips;
      run = run_as k seen;
      named = h;
    }

    module _ (named : List Rip) (names : (k : AbstractNetlist) → IsSeenAs n k → AreNamed (terminals k) rips named) (any : AbstractNetlist) (any_seen : IsSeenAs n any) where
      few_named : (allowed : ℕ) → length rips ≤ allowed → length named ≤ allowed
      few_named allowed few = (let same = named_many (terminals any) rips named (names any any_seen) in omega arith)

      pub rerouted : (allowed : ℕ) → length rips ≤ allowed → AreRoutes g (net_reserved nets) (net_points nets) (length nets) routes → AreWhole (net_points nets) (length nets) routes
          → AreRerouted l n p metals allowed named routes
      rerouted allowed few trees whole = record {
        trees = λ k seen. trees_as l n p metals placed some nets are g is routes k seen trees;
        whole = λ k seen. are_whole k l p nets (are k seen) metals routes whole;
        few = few_named allowed few;
        run = λ k seen. has_run named k seen (names k seen);
      }

      pub spent_so : (allowed net at : ℕ) (t : Terminal) → length rips ≤ allowed → AreRoutes g (net_reserved nets) (net_points nets) (length nets) routes
          → IsSpent (problem g nets run.order) allowed rips routes net at → ((k : AbstractNetlist) → IsSeenAs n k → slice_get (terminals k net) at ≡ Some t)
          → AreSpent l n p metals allowed named routes net t
      unfolding has_run
      spent_so allowed net at t few trees spent told = record {
        trees = λ k seen. trees_as l n p metals placed some nets are g is routes k seen trees;
        few = few_named allowed few;
        stuck = λ k seen.
            let points = are k seen in
            let same_grid = grid_is l n p metals placed some nets are g is k seen in
            let run_there = subst (λ (x : Grid). IsRipRun (problem x nets run.order) rips routes) same_grid run.run in
            let spent_there = subst (λ (x : Grid). IsSpent (problem x nets run.order) allowed rips routes net at) same_grid spent in
            let moved = spent_moved (grid_of metals k l p) (length nets) run.order (net_reserved nets) (reserved_of k l p) (net_points nets) (nodes_of k l p)
            (same_reserved k l p nets points) (same_points k l p nets points) (λ j i. (run.sorted.each j).0 i) allowed rips routes net at run_there spent_there in
            record {
              run = has_run named k seen (names k seen);
              at = at;
              named = told k seen;
              spent = subst
                  (λ (m : ℕ). IsSpent (record { grid = grid_of metals k l p; reserved = reserved_of k l p; points = nodes_of k l p; nets = m; order = run.order }) allowed rips routes net at)
                  points.many moved;
            };
      }
