-- What the routing of a placed netlist answers.
use Rattle.std.specs.Prelude.{ℕ}
use Rattle.cell_model.specs.Library.{Library}
use Rattle.net_core.specs.Netlist.{Netlist as InMemory}
use Rattle.net_meaning.specs.Netlist.{AbstractNetlist}
use Rattle.net_right.specs.View.{IsSeenAs}
use Rattle.ocp_rows.specs.Placement.{net_count}
use Rattle.ocp_place.specs.Nets.{net_number}
use Rattle.ocp_place.specs.Placed.{InRow, rows_of, stood_in}
use Rattle.grid_core.specs.Routes.{NetRoutes}
use Rattle.grid_core.specs.Shown.{tree_in}
use Rattle.grid_core.specs.Trees.{AreWhole}
use Rattle.ocp_grid.specs.Points.{nodes_of, AreRoutesOf}
use Rattle.nero_nets.specs.declared.error.RouteError.{RouteError}
use Rattle.nero_nets.specs.declared.error.RouteError.TheVariants as error
use Rattle.nero_nets.specs.Routed.{AreInOrder, IsStuckBefore}

-- Each net has a whole tree over its points, and the nets were taken in order.
pub record AreRouted (l : Library) (n : InMemory) (p : InRow) (metals : ℕ) (routes : NetRoutes) : Type 0 where
  pub trees : AreRoutesOf l n p metals routes
  pub whole : (k : AbstractNetlist) → IsSeenAs n k → AreWhole (nodes_of k l p) (net_count k) routes
  pub ordered : (k : AbstractNetlist) → IsSeenAs n k → AreInOrder k l (net_number k l) (rows_of k p) (stood_in k p) metals routes

-- a refusal for want of a path shows where it is wanting
abbrev pub IsRefusal : Library → InMemory → InRow → ℕ → RouteError → Type 0
IsRefusal l n p metals error.Memory = Unit {0}
IsRefusal l n p metals (error.NoPath net terminal so_far) =
    AreRoutesOf l n p metals (tree_in so_far)
    × ((k : AbstractNetlist) → IsSeenAs n k → IsStuckBefore k l (net_number k l) (rows_of k p) (stood_in k p) metals (tree_in so_far) net terminal)
