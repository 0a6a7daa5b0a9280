-- What is true of the trees of a router is true of its routes.
use Rattle.std.proofs.Common.{◌≡◌, ℕ, List, Option, sym, subst, length}
use Rattle.std.specs.Prelude.{Result, Ok, Err, IfOk}
use mathlib.Core.Path.{fun_ext}
use Rattle.grid_core.specs.Routes.{Tree, NetRoutes}
use Rattle.grid_core.specs.Shown.{tree_in}
use Rattle.grid_core.specs.declared.grid.Grid.{Grid}
use Rattle.grid_core.specs.Trees.{AreRoutes}
use Rattle.nero_maze.specs.Routing.{Routing, tree_of, AreTrees}
use Rattle.maze_nets.specs.declared.points.NetPoints.{NetPoints}
use Rattle.maze_nets.specs.Nets.{net_points, net_reserved}
use Rattle.maze_nets.specs.Answers.{AreOrdered, AreStuck}

pub same_routes : (nets : ℕ) (r : Routing) (trees : List (Option Tree)) → AreTrees nets r trees → tree_of r ≡ tree_in trees
same_routes nets r trees h = fun_ext (λ k. sym (h.same k))

module _ (g h : Grid) (nets : List NetPoints) (r : Routing) (trees : List (Option Tree)) (are : AreTrees (length nets) r trees) (same : g ≡ h) where
  pub routes_shown : AreRoutes g (net_reserved nets) (net_points nets) (length nets) (tree_of r) → AreRoutes h (net_reserved nets) (net_points nets) (length nets) (tree_in trees)
  routes_shown a =
      subst (λ (t : NetRoutes). AreRoutes h (net_reserved nets) (net_points nets) (length nets) t) (same_routes (length nets) r trees are)
      (subst (λ (x : Grid). AreRoutes x (net_reserved nets) (net_points nets) (length nets) (tree_of r)) same a)

  pub order_shown : AreOrdered g nets (tree_of r) → AreOrdered h nets (tree_in trees)
  order_shown a =
      subst (λ (t : NetRoutes). AreOrdered h nets t) (same_routes (length nets) r trees are) (subst (λ (x : Grid). AreOrdered x nets (tree_of r)) same a)

  pub stuck_shown : (net at : ℕ) → AreStuck g nets (tree_of r) net at → AreStuck h nets (tree_in trees) net at
  stuck_shown net at a =
      subst (λ (t : NetRoutes). AreStuck h nets t net at) (same_routes (length nets) r trees are) (subst (λ (x : Grid). AreStuck x nets (tree_of r) net at) same a)

pub ok_then : {A E : Type 0} {P Q : A → Type 0} (r : Result A E) → ((a : A) → P a → Q a) → IfOk r P → IfOk r Q
ok_then (Ok a) f h = f a h
ok_then (Err e) f h = tt
