use Rattle.std.proofs.Common.{◌≡◌, ℕ, List, Option, None, length, arith, ap, sym, subst}
use Rattle.std.proofs.lemmas.List.{length_push}
use Rattle.grid_core.specs.declared.routes.NetTree.{NetTree}
use Rattle.grid_core.specs.Shown.{shown_routes, tree_in}
use Rattle.nero_maze.proofs.Telling.{none_more}
use Rattle.nero_maze.proofs.history.no_trees.Goals as goal

pub loop-preserved : goal.loop-preserved
loop-preserved c =
    let p = length_push c.loop.trees.items None in
    let e = ap length c.in_ok-push.ensures.items in
    let m = c.loop.invariant.many in
    record {
      many = omega (arith, p, e, m);
      none = subst (λ (ts : List (Option NetTree)). (k : ℕ) → tree_in (shown_routes ts) k ≡ None) (sym c.in_ok-push.ensures.items) (none_more c.loop.trees.items c.loop.invariant.none);
    }
