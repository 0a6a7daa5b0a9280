-- Trees of placed nets stay apart.
use Rattle.std.proofs.Common.{List, ◌∷◌, [], ⊎_elim, subst}
use Rattle.std.specs.List.{flat_map}
use Rattle.vlsi_base.specs.Member.{In, here, there}
use Rattle.grid_core.specs.declared.grid.Node.{Node}
use Rattle.grid_core.specs.Grid.{above}
use Rattle.grid_core.proofs.Lists.{In_either, In_first, In_last}
use Rattle.grid_core.proofs.Owners.{first_or}
use Rattle.maze_drawing.specs.Points.{port_nodes, terminal_nodes}
use Rattle.ocp_place.specs.Nets.{net_number}
use Rattle.ocp_place.specs.Placed.{rows_of, stood_in}
use Rattle.ocp_grid.specs.Law.{PointsAreApart, PlacementsAreInRows}
use Rattle.maze_rips.specs.Law.{MovesKeepTreesApart}
use Rattle.nero_rip.specs.Law.{placed_problem, PlacedTreesStayApart}

-- a terminal's node is reserved, with the one above it
among : (ts : List Node) (q : Node) → In q ts → In q (flat_map (λ t. t ∷ above t ∷ []) ts)
among [] q i = elim i [ ]
among (t ∷ ts) q i = ⊎_elim
    (λ e. subst (λ (x : Node). In q (x ∷ above t ∷ flat_map (λ u. u ∷ above u ∷ []) ts)) e here)
    (λ j. there (there (among ts q j)))
    (first_or q t ts i)

pub placed_apart : PlacementsAreInRows → PointsAreApart → MovesKeepTreesApart → PlacedTreesStayApart
placed_apart in_rows apart keep l n p k metals order moves placed seen some h =
    let rows = in_rows l n p k placed seen in
    let own = apart k l (net_number k l) (rows_of k p) (stood_in k p) metals rows some in
    keep (placed_problem l k p metals order) moves
    (record {
      within = own.within;
      alone = own.alone;
      mine = λ j q i.
          let ports = port_nodes l (rows_of k p) j in
          let terminals = terminal_nodes k l (net_number k l) (stood_in k p) j in
          ⊎_elim
          (λ a. In_first ports (flat_map (λ t. t ∷ above t ∷ []) terminals) q a)
          (λ a. In_last ports (flat_map (λ t. t ∷ above t ∷ []) terminals) q (among terminals q a))
          (In_either ports terminals q i);
    })
    h
