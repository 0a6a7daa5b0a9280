-- The points of nets one after another, for each netlist of layouts that one in memory is seen as.
use Rattle.std.proofs.Common.{◌≡◌, ℕ, zero, suc, ◌+◌, ◌/◌, ◌<◌, not, filter, List, [], ◌∷◌, ◌++◌, map, length, Some, None, ap, subst, ◌∙◌, arith}
use Rattle.std.specs.Prelude.{slice_get, slice_index_or}
use Rattle.std.specs.List.{All}
use Rattle.std.proofs.lemmas.Option.{same_Some}
use Rattle.cell_model.specs.Access.{Point}
use Rattle.cell_model.specs.Library.{Library}
use Rattle.net_core.specs.Netlist.{Netlist as InMemory}
use Rattle.net_core.proofs.Standing.{Split, left, right, split}
use Rattle.net_meaning.specs.Netlist.{AbstractNetlist}
use Rattle.net_right.specs.View.{IsSeenAs}
use Rattle.ocp_place.specs.declared.row.Site.{Site as Placed}
use Rattle.ocp_place.specs.Nets.{is_among}
use Rattle.ocp_place.specs.Placed.{InRow, IsRowPlacementOf}
use Rattle.ocp_place.specs.Reaches.{site_of}
use Rattle.ocp_place.proofs.Classes.{known, known_seen}
use Rattle.ocp_place.proofs.Seen.{orderly}
use Rattle.nero_tracks.specs.Tracks.{net_pins}
use Rattle.maze_nets.specs.declared.points.NetPoints.{NetPoints}
use Rattle.maze_nets.specs.Nets.{port_node}
use Rattle.ocp_grid.specs.Points.{IsNetOf, ArePointsIn}
use Rattle.ocp_grid.specs.Sites.{point_node, IsOnGrid, net_port}
use Rattle.ocp_grid.proofs.InRows.{placements_are_in_rows}
use Rattle.ocp_grid.proofs.Spots.{classes_are, nets_many, terminals, port_nodes_are, sites_on}

-- these are the classes of a placement's nets
abbrev pub AreNetClasses : InRow → List ℕ → Type 0
AreNetClasses p classes = classes ≡ p.ports ++ filter (λ class. not (is_among p.ports class)) p.drivers

-- the points of these nets, as far as there are some
abbrev pub AreNetsOf : Library → InMemory → InRow → List NetPoints → Type 0
AreNetsOf l n p nets = (k : AbstractNetlist) → IsSeenAs n k → (j : ℕ) (points : NetPoints) → slice_get nets j ≡ Some points → IsNetOf k l p j points

module _ (l : Library) (n : InMemory) (p : InRow) (placed : IsRowPlacementOf l n p) (narrow : p.width / 500 < 4294967295)
    (classes : List ℕ) (are_classes : AreNetClasses p classes) (j class : ℕ) (at : slice_get classes j ≡ Some class) (low : class < length p.ends) where
  -- the terminals of a net lie on the grid
  pub ends_on : (sites : List Placed) → map (λ s. (site_of s).1) sites ≡ slice_index_or p.ends class [] → All (λ s. IsOnGrid (site_of s).1) sites
  ends_on sites e =
      let k = known n in
      let seen = known_seen n placed.drawable.sound in
      let o = orderly l n placed.passed placed.drawable k seen in
      let are = placed.rows k seen in
      let rows = placements_are_in_rows l n p k placed seen in
      let own = subst (λ (cs : List ℕ). slice_get cs j ≡ Some class) (classes_are k l o p are rows narrow classes are_classes) at in
      let below : class < k.classes = let many = are.many in omega (arith, low, many) in
      sites_on k l o p are rows narrow j class own below sites e

  -- and are its points
  pub net_is : (points : List Point) → points ≡ slice_index_or p.ends class [] → (ports : ℕ) → ports ≡ length p.ports
      → (q : NetPoints) → port_node q.port ≡ map (point_node 3) (net_port ports j points) → q.terminals.items ≡ map (point_node 2) (net_pins ports j points)
      → (k : AbstractNetlist) → IsSeenAs n k → IsNetOf k l p j q
  net_is points e ports many q port_is terminals_are k seen =
      let o = orderly l n placed.passed placed.drawable k seen in
      let are = placed.rows k seen in
      let rows = placements_are_in_rows l n p k placed seen in
      let own = subst (λ (cs : List ℕ). slice_get cs j ≡ Some class) (classes_are k l o p are rows narrow classes are_classes) at in
      let below : class < k.classes = let all = are.many in omega (arith, low, all) in
      record {
        port = port_is ∙ ap (λ (qs : List Point). map (point_node 3) (net_port ports j qs)) e
            ∙ ap (λ (m : ℕ). map (point_node 3) (net_port m j (slice_index_or p.ends class []))) many
            ∙ port_nodes_are k l o p are rows narrow j class own below;
        terminals = terminals_are ∙ ap (λ (qs : List Point). map (point_node 2) (net_pins ports j qs)) e
            ∙ ap (λ (m : ℕ). map (point_node 2) (net_pins m j (slice_index_or p.ends class []))) many
            ∙ terminals k l o p are rows narrow j class own below;
      }

module _ (l : Library) (n : InMemory) (p : InRow) where
  -- one more net
  pub one_more : (nets : List NetPoints) (q : NetPoints) → AreNetsOf l n p nets → ((k : AbstractNetlist) → IsSeenAs n k → IsNetOf k l p (length nets) q) → AreNetsOf l n p (nets ++ q ∷ [])
  one_more nets q so_far last k seen j points at = by (split nets (q ∷ []) j points at) where
    only : (i : ℕ) → j ≡ length nets + i → slice_get (q ∷ []) i ≡ Some points → IsNetOf k l p j points
    only zero e f =
        let same : q ≡ points = same_Some q points f in
        let place : length nets ≡ j = omega (arith, e) in
        subst (λ (i : ℕ). IsNetOf k l p i points) place (subst (λ (one : NetPoints). IsNetOf k l p (length nets) one) same (last k seen))
    only (suc i) e f = let none : None ≡ Some points = f in absurd (cc none)

    by : Split nets (q ∷ []) j points → IsNetOf k l p j points
    by (left s) = so_far k seen j points s
    by (right i e s) = only i e s

  -- all of them
  pub all_nets : IsRowPlacementOf l n p → p.width / 500 < 4294967295 → (classes : List ℕ) → AreNetClasses p classes → (nets : List NetPoints) → length nets ≡ length classes
      → AreNetsOf l n p nets → ArePointsIn l n p nets
  all_nets placed narrow classes are_classes nets many each k seen =
      let o = orderly l n placed.passed placed.drawable k seen in
      let are = placed.rows k seen in
      let rows = placements_are_in_rows l n p k placed seen in
      record {
        many = many ∙ ap length (classes_are k l o p are rows narrow classes are_classes) ∙ nets_many k l o p are rows narrow;
        each = each k seen;
      }
