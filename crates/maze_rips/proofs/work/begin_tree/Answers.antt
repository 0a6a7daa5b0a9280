use Rattle.std.proofs.Common.{◌++◌, ◌∷◌, [], sym, subst, ap, ◌∙◌}
use Rattle.std.proofs.lemmas.Result.{on_ok_weaker}
use Rattle.std.specs.Global.{Vec}
use Rattle.nero_maze.specs.Routing.{Routing, latest_path, Begins}
use Rattle.maze_nets.proofs.Running.{point_free}
use Rattle.maze_rips.specs.declared.rip.PointRip.{PointRip}
use Rattle.maze_rips.specs.Paths.{paths_in, HasNow}
use Rattle.maze_rips.proofs.Working.{seated_work, bare_tree}
use Rattle.maze_rips.proofs.work.begin_tree.Goals as goal

pub seat-requires-clause-free : goal.seat-requires-clause-free
seat-requires-clause-free c =
    let t = c.args.task.now in
    let w = c.args.work.now in
    point_free t.grid t.nets.now c.requires.task.routable w.router c.requires.under_way.under_way.orderly.owners c.args.net 0 c.point_of-first.result c.point_of-first.ensures

pub returns : goal.returns
returns c =
    let t = c.args.task.now in
    let w = c.args.work.now in
    let k = c.args.net in
    let new = c.keep_latest.new.work in
    let e = c.keep_latest.ensures in
    let begins = subst (λ (r : Routing). Begins k c.point_of-first.result w.router r) (sym e.router) c.seat.ensures in
    on_ok_weaker c.keep_latest.result (λ kept.
    seated_work t c.requires.task k c.requires.net w new c.point_of-first.result c.requires.under_way
    (bare_tree t k w c.requires.net c.requires.under_way (sym c.count.ensures ∙ c.if-count-ne0.false)) c.point_of-first.ensures begins
    (subst (λ (r : Routing). HasNow k (paths_in w.paths k ++ latest_path r.moves ∷ []) w.paths new.paths) (sym e.router) kept)
    (ap (λ (v : Vec PointRip). v.items) e.rips)) e.kept
