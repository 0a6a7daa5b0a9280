-- What is true of the trees of a router is true of its routes.
use Rattle.std.proofs.Common.{ℕ, ◌≡◌, ◌≤◌, length, sym, subst}
use Rattle.std.specs.Global.{Vec}
use Rattle.grid_core.specs.Routes.{NetRoutes}
use Rattle.grid_core.specs.Shown.{tree_in}
use Rattle.grid_core.specs.Trees.{AreWhole}
use Rattle.nero_maze.specs.Routing.{tree_of, AreTrees}
use Rattle.maze_nets.specs.Nets.{net_points}
use Rattle.maze_nets.proofs.Shown.{same_routes}
use Rattle.maze_rips.specs.declared.rip.PointRip.{PointRip}
use Rattle.maze_rips.specs.declared.rip.Ripped.{Ripped}
use Rattle.maze_rips.specs.declared.work.Task.{Task}
use Rattle.maze_rips.specs.declared.work.Work.{Work}
use Rattle.maze_rips.specs.Run.{IsSpent}
use Rattle.maze_rips.specs.Answers.{AreRipped, AreStuck}
use Rattle.maze_rips.specs.Progress.{problem_of, IsTask, IsUnderWay}

module _ (t : Task) (task : IsTask t) (w : Work) (allowed : ℕ) (r : Ripped) (told : AreTrees (length w.paths) w.router r.routes) (rips : r.rips ≡ w.rips) (u : IsUnderWay t w)
    (few : length w.rips.items ≤ allowed) where
  are : AreTrees (length t.nets.now) w.router r.routes
  are = subst (λ (n : ℕ). AreTrees n w.router r.routes) u.counted told

  pub ripped_shown : AreWhole (net_points t.nets.now) (length t.nets.now) (tree_of w.router) → AreRipped t.grid t.nets.now allowed r.rips.items (tree_in r.routes)
  ripped_shown whole =
      subst (λ (v : Vec PointRip). AreRipped t.grid t.nets.now allowed v.items (tree_in r.routes)) (sym rips)
      (subst (λ (n : NetRoutes). AreRipped t.grid t.nets.now allowed w.rips.items n) (same_routes (length t.nets.now) w.router r.routes are)
      (record { trees = u.orderly.routes; whole = whole; few = few; run = record { order = t.order.now; sorted = task.sorted; run = u.run } }))

  pub stuck_shown : (net at : ℕ) → IsSpent (problem_of t) allowed w.rips.items (tree_of w.router) net at
      → (length r.routes ≡ length t.nets.now) × AreStuck t.grid t.nets.now allowed r.rips.items (tree_in r.routes) net at
  stuck_shown net at spent = (
    are.size,
    subst (λ (v : Vec PointRip). AreStuck t.grid t.nets.now allowed v.items (tree_in r.routes) net at) (sym rips)
        (subst (λ (n : NetRoutes). AreStuck t.grid t.nets.now allowed w.rips.items n net at) (same_routes (length t.nets.now) w.router r.routes are)
        (record { trees = u.orderly.routes; few = few; run = record { order = t.order.now; sorted = task.sorted; run = u.run }; spent = spent })),
  )
