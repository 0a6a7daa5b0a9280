use Rattle.std.proofs.Common.{◌++◌, ◌∷◌, [], sym, subst, ap}
use Rattle.std.specs.Global.{Vec}
use Rattle.grid_core.specs.declared.grid.Grid.{Grid}
use Rattle.grid_core.specs.Grid.{IsInGrid}
use Rattle.nero_maze.specs.Routing.{Routing, latest_path, Connects}
use Rattle.maze_nets.specs.Nets.{net_points}
use Rattle.maze_nets.proofs.Lists.{get_in, point_reserved}
use Rattle.maze_nets.proofs.Running.{from_err, from_ok}
use Rattle.maze_rips.specs.declared.rip.PointRip.{PointRip}
use Rattle.maze_rips.specs.Paths.{paths_in, HasNow}
use Rattle.maze_rips.proofs.Working.{target_new, stuck_here, joined_work}
use Rattle.maze_rips.proofs.work.reach.Goals as goal

pub connect-requires-clause-within : goal.connect-requires-clause-within
connect-requires-clause-within c =
    let t = c.args.task.now in
    let nets = t.nets.now in
    let q = c.point_of-point.result in
    subst (λ (g : Grid). IsInGrid g q) (sym c.requires.under_way.under_way.orderly.owners.grid)
    (c.requires.task.routable.within c.args.net q (point_reserved nets c.args.net q (get_in (net_points nets c.args.net) c.args.at q c.point_of-point.ensures)))

pub connect-requires-clause-new : goal.connect-requires-clause-new
connect-requires-clause-new c =
    target_new c.args.task.now c.requires.task c.args.net c.args.at c.args.work.now c.point_of-point.result c.requires.net c.requires.under_way c.requires.begun c.requires.reached
    c.point_of-point.ensures

pub returns-then-is_err-clause-stuck : goal.returns-then-is_err-clause-stuck
returns-then-is_err-clause-stuck c = λ no.
    let none = (from_err c.connect.result c.is_err.result c.is_err.ensures.value c.if-is_err.true c.connect.ensures.none).1 in (
      c.point_of-point.result,
      stuck_here c.args.task.now c.args.net c.args.at c.args.work.now c.point_of-point.result c.requires.net c.requires.under_way c.requires.begun
          c.requires.reached c.point_of-point.ensures none,
    )

pub returns-clause-reaches : goal.returns-clause-reaches
returns-clause-reaches c = λ yes.
    let w = c.args.work.now in
    let k = c.args.net in
    let new = c.keep_latest.new.work in
    let e = c.in_ok-keep_latest.ensures in
    let (cost, (path, connects)) = from_ok c.connect.result c.is_err.result c.is_err.ensures.value c.if-is_err.false c.connect.ensures.path in
    joined_work c.args.task.now c.requires.task k c.args.at w new c.point_of-point.result path cost c.requires.net c.requires.under_way c.requires.begun
    c.requires.reached c.point_of-point.ensures (subst (λ (r : Routing). Connects k c.point_of-point.result cost w.router r path) (sym e.router) connects)
    (subst (λ (r : Routing). HasNow k (paths_in w.paths k ++ latest_path r.moves ∷ []) w.paths new.paths) (sym e.router) e.kept)
    (ap (λ (v : Vec PointRip). v.items) e.rips)
