use Rattle.std.proofs.Common.{List, sym, ◌∙◌, subst}
use Rattle.std.specs.Prelude.{slice_index_or}
use Rattle.nero_maze.specs.Routing.{tree_of}
use Rattle.maze_rips.specs.declared.rip.PointRip.{PointRip}
use Rattle.maze_rips.specs.Run.{last_stuck, IsServed}
use Rattle.maze_rips.specs.Progress.{problem_of}
use Rattle.maze_rips.proofs.Finishing.{served_still, order_turn, order_known, whole_more}
use Rattle.maze_rips.proofs.work.finish_all.Goals as goal

pub finish-requires-clause-net : goal.finish-requires-clause-net
finish-requires-clause-net c =
    let t = c.args.task.now in
    let i = c.loop-net.net-index in
    let inv = c.loop-net.invariant in
    order_known t c.requires.task i c.loop-net-test.true

pub finish-requires-clause-under_way : goal.finish-requires-clause-under_way
finish-requires-clause-under_way c =
    let t = c.args.task.now in
    let i = c.loop-net.net-index in
    let inv = c.loop-net.invariant in
    order_turn t c.loop-net.work i c.loop-net-test.true inv.under_way inv.served inv.whole

pub loop-net-preserved : goal.loop-net-preserved
loop-net-preserved c =
    let t = c.args.task.now in
    let i = c.loop-net.net-index in
    let inv = c.loop-net.invariant in
    let new = c.finish.new.work in
    let e = c.in_ok-point.ensures in
    let k = slice_index_or t.order.now i 0 in
    let mine = (let h = e.whole in rw c.in_default-2.is at h) in
    let served = served_still (problem_of t) (tree_of c.loop-net.work.router) (tree_of new.router) k (last_stuck c.loop-net.work.rips.items) e.others mine inv.served in
    record {
      under_way = e.under_way;
      rips = e.rips ∙ inv.rips;
      served = subst (λ (rs : List PointRip). IsServed (problem_of t) (tree_of new.router) (last_stuck rs)) (sym e.rips) served;
      whole = whole_more t c.loop-net.work new i c.loop-net-test.true e.others mine inv.whole;
    }
