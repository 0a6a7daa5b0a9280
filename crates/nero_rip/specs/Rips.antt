-- Nets of a placed netlist that were routed with rips.
use Rattle.std.specs.Prelude.{◌≡◌, ℕ, List, [], ◌∷◌, Some, slice_get}
use Rattle.vlsi_base.specs.declared.name.Terminal.{Terminal}
use Rattle.sym_geom.specs.declared.item.Instance.{Instance}
use Rattle.cell_model.specs.Library.{Library}
use Rattle.net_meaning.specs.Netlist.{AbstractNetlist}
use Rattle.net_drawing.specs.Drawing.{Numbering}
use Rattle.ocp_rows.specs.Placement.{Placement, net_count}
use Rattle.grid_core.specs.Routes.{NetRoutes}
use Rattle.grid_core.specs.Trees.{IsNetOrder}
use Rattle.maze_drawing.specs.Points.{grid_over, net_nodes, reserved}
use Rattle.maze_rips.specs.declared.rip.PointRip.{PointRip}
use Rattle.maze_rips.specs.Run.{Problem, IsRipRun, IsSpent}
use Rattle.nero_nets.specs.Routed.{net_reach, net_terminals}
use Rattle.nero_rip.specs.declared.rip.Rip.{Rip}

-- the nets of a netlist in rows, in an order
abbrev pub rows_problem : AbstractNetlist → Library → Numbering → Placement → List Instance → ℕ → List ℕ → Problem
rows_problem n l net p instances metals order = record {
  grid = grid_over metals l p;
  reserved = reserved n l net p instances;
  points = net_nodes n l net p instances;
  nets = net_count n;
  order = order;
}

-- a rip names the terminal that has its point's number among those of its net
pub record IsNamed (terminals : ℕ → List Terminal) (r : PointRip) (named : Rip) : Type 0 where
  pub net : named.net ≡ r.net
  pub torn : named.torn ≡ r.torn
  pub terminal : slice_get (terminals r.net) r.point ≡ Some named.terminal

abbrev pub AreNamed : (ℕ → List Terminal) → List PointRip → List Rip → Type 0
AreNamed terminals [] [] = Unit {0}
AreNamed terminals [] (named ∷ more) = ⊥
AreNamed terminals (r ∷ rips) [] = ⊥
AreNamed terminals (r ∷ rips) (named ∷ more) = IsNamed terminals r named × AreNamed terminals rips more

-- The nets were taken by half perimeter, then by number; and these rips and trees come of moves: the net that is due gets its next point by
-- a path that is least beside all other trees, and where it is stuck, a net that is in the way is torn out.
pub record HasRun (n : AbstractNetlist) (l : Library) (net : Numbering) (p : Placement) (instances : List Instance) (metals : ℕ)
    (rips : List Rip) (routes : NetRoutes) : Type 0 where
  pub order : List ℕ
  pub sorted : IsNetOrder (net_reach n l net p instances) (net_count n) order
  pub made : List PointRip
  pub run : IsRipRun (rows_problem n l net p instances metals order) made routes
  pub named : AreNamed (net_terminals n l net p instances) made rips

-- They came so to net k, which is stuck: no free path leads from its tree to the node of the terminal, which is the first that it lacks;
-- and either as many rips were made as are allowed, or no path leads there past all other trees either.
pub record IsStuckAfter (n : AbstractNetlist) (l : Library) (net : Numbering) (p : Placement) (instances : List Instance) (metals allowed : ℕ)
    (rips : List Rip) (routes : NetRoutes) (k : ℕ) (terminal : Terminal) : Type 0 where
  pub run : HasRun n l net p instances metals rips routes
  pub at : ℕ
  pub named : slice_get (net_terminals n l net p instances k) at ≡ Some terminal
  pub spent : IsSpent (rows_problem n l net p instances metals run.order) allowed run.made routes k at
