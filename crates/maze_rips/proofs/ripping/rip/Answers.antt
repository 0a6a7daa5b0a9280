use Rattle.std.proofs.Common.{◌≡◌, ◌≢◌, List, None, arith, sym, ◌∙◌, subst}
use Rattle.grid_core.specs.declared.grid.Grid.{Grid}
use Rattle.grid_core.specs.declared.grid.Node.{Node}
use Rattle.grid_core.specs.Grid.{IsInGrid}
use Rattle.nero_maze.specs.Routing.{tree_of, TakesOut}
use Rattle.maze_nets.specs.Nets.{net_points}
use Rattle.maze_nets.proofs.Lists.{get_in, point_reserved}
use Rattle.maze_rips.specs.Run.{IsPathPast}
use Rattle.maze_rips.specs.Progress.{problem_of}
use Rattle.maze_rips.proofs.Working.{in_the_way, blocker_begun, ripped_work, nothing_past, stuck_free}
use Rattle.maze_rips.proofs.Finishing.{stuck_point, same_point}
use Rattle.maze_rips.proofs.ripping.rip.Goals as goal

pub blocker-requires-clause-within : goal.blocker-requires-clause-within
blocker-requires-clause-within c =
    let t = c.args.task.now in
    let w = c.args.work.now in
    let k = c.args.stuck.net in
    let at = c.args.stuck.point in
    let target = c.point_of-target.result in
    let (q, s) = c.requires.stuck in
    let u = c.requires.under_way in
    let stuck = stuck_point (problem_of t) w.rips.items (tree_of w.router) k at q target s c.point_of-target.ensures in
    subst (λ (g : Grid). IsInGrid g target) (sym u.orderly.owners.grid)
    (c.requires.task.routable.within k target (point_reserved t.nets.now k target (get_in (net_points t.nets.now k) at target c.point_of-target.ensures)))

pub blocker-requires-clause-stuck : goal.blocker-requires-clause-stuck
blocker-requires-clause-stuck c =
    let t = c.args.task.now in
    let w = c.args.work.now in
    let k = c.args.stuck.net in
    let at = c.args.stuck.point in
    let target = c.point_of-target.result in
    let (q, s) = c.requires.stuck in
    let u = c.requires.under_way in
    let stuck = stuck_point (problem_of t) w.rips.items (tree_of w.router) k at q target s c.point_of-target.ensures in
    stuck_free t w k at target u stuck

pub take_out-requires : goal.take_out-requires
take_out-requires c =
    let t = c.args.task.now in
    let w = c.args.work.now in
    let k = c.args.stuck.net in
    let at = c.args.stuck.point in
    let target = c.point_of-target.result in
    let (q, s) = c.requires.stuck in
    let u = c.requires.under_way in
    let stuck = stuck_point (problem_of t) w.rips.items (tree_of w.router) k at q target s c.point_of-target.ensures in
    record { begun = subst (λ r. tree_of r c.in-Some.torn ≢ None) (sym (c.avoid.ensures ∙ c.blocker.ensures.same)) (blocker_begun w k target c.in-Some.torn c.in-Some.ensures.blocks) }

pub tear-requires : goal.tear-requires
tear-requires c =
    let t = c.args.task.now in
    let w = c.args.work.now in
    let k = c.args.stuck.net in
    let at = c.args.stuck.point in
    let target = c.point_of-target.result in
    let (q, s) = c.requires.stuck in
    let u = c.requires.under_way in
    let stuck = stuck_point (problem_of t) w.rips.items (tree_of w.router) k at q target s c.point_of-target.ensures in
    let way = in_the_way t w k target c.in-Some.torn u c.in-Some.ensures.blocks in
    let known = way.known in
    let size = u.counted in
    omega arith

pub returns-clause-under_way : goal.returns-clause-under_way
returns-clause-under_way c = λ yes.
    let t = c.args.task.now in
    let w = c.args.work.now in
    let k = c.args.stuck.net in
    let at = c.args.stuck.point in
    let target = c.point_of-target.result in
    let (q, s) = c.requires.stuck in
    let u = c.requires.under_way in
    let stuck = stuck_point (problem_of t) w.rips.items (tree_of w.router) k at q target s c.point_of-target.ensures in
    let out = subst (λ r. TakesOut c.in-Some.torn r c.take_out.new.self) (c.avoid.ensures ∙ c.blocker.ensures.same) c.take_out.ensures in
    ripped_work t c.requires.task w _ k at c.in-Some.torn target u stuck c.in-Some.ensures.blocks out c.tear.ensures c.in_ok-push.ensures.items

pub returns-in_default-clause-closed : goal.returns-in_default-clause-closed
returns-in_default-clause-closed c = λ no q s.
    let t = c.args.task.now in
    let w = c.args.work.now in
    let k = c.args.stuck.net in
    let at = c.args.stuck.point in
    let target = c.point_of-target.result in
    let (q0, s0) = c.requires.stuck in
    let u = c.requires.under_way in
    let same : target ≡ q = same_point (problem_of t) w.rips.items (tree_of w.router) k at q target s c.point_of-target.ensures in
    subst (λ (n : Node). (path : List Node) → IsPathPast (problem_of t) (tree_of w.router) k n path → ⊥) same (nothing_past t w k target u c.in_default.ensures.none)
