-- What the routing of a placed netlist with rips answers.
use Rattle.std.specs.Prelude.{ℕ, ◌≤◌, List, length}
use Rattle.vlsi_base.specs.declared.name.Terminal.{Terminal}
use Rattle.cell_model.specs.Library.{Library}
use Rattle.net_core.specs.Netlist.{Netlist as InMemory}
use Rattle.net_meaning.specs.Netlist.{AbstractNetlist}
use Rattle.net_right.specs.View.{IsSeenAs}
use Rattle.ocp_rows.specs.Placement.{net_count}
use Rattle.ocp_place.specs.Nets.{net_number}
use Rattle.ocp_place.specs.Placed.{InRow, rows_of, stood_in}
use Rattle.grid_core.specs.Routes.{NetRoutes}
use Rattle.grid_core.specs.Shown.{tree_in}
use Rattle.grid_core.specs.Trees.{AreWhole}
use Rattle.ocp_grid.specs.Points.{nodes_of, AreRoutesOf}
use Rattle.nero_rip.specs.declared.error.RipError.{RipError}
use Rattle.nero_rip.specs.declared.error.RipError.TheVariants as error
use Rattle.nero_rip.specs.declared.rip.Rip.{Rip}
use Rattle.nero_rip.specs.Rips.{HasRun, IsStuckAfter}

-- Each net has a whole tree over its points, no more rips were made than are allowed, and rips and trees come of right moves.
pub record AreRerouted (l : Library) (n : InMemory) (p : InRow) (metals allowed : ℕ) (rips : List Rip) (routes : NetRoutes) : Type 0 where
  pub trees : AreRoutesOf l n p metals routes
  pub whole : (k : AbstractNetlist) → IsSeenAs n k → AreWhole (nodes_of k l p) (net_count k) routes
  pub few : length rips ≤ allowed
  pub run : (k : AbstractNetlist) → IsSeenAs n k → HasRun k l (net_number k l) (rows_of k p) (stood_in k p) metals rips routes

-- They came to a net that is stuck.
pub record AreSpent (l : Library) (n : InMemory) (p : InRow) (metals allowed : ℕ) (rips : List Rip) (routes : NetRoutes) (net : ℕ) (terminal : Terminal)
    : Type 0 where
  pub trees : AreRoutesOf l n p metals routes
  pub few : length rips ≤ allowed
  pub stuck : (k : AbstractNetlist) → IsSeenAs n k
      → IsStuckAfter k l (net_number k l) (rows_of k p) (stood_in k p) metals allowed rips routes net terminal

-- a refusal for want of a path shows where it is wanting, and which rips were made
abbrev pub IsRefusal : Library → InMemory → InRow → ℕ → ℕ → RipError → Type 0
IsRefusal l n p metals allowed error.Memory = Unit {0}
IsRefusal l n p metals allowed (error.NoPath net terminal so_far rips) = AreSpent l n p metals allowed rips (tree_in so_far) net terminal
