use Rattle.std.proofs.Common.{◌≡◌, List, length, Some, arith, sym, ap, ◌∙◌, subst}
use Rattle.std.specs.Prelude.{slice_get}
use Rattle.grid_core.specs.declared.grid.Grid.{Grid}
use Rattle.grid_core.specs.declared.grid.Node.{Node}
use Rattle.grid_core.specs.Grid.{IsInGrid}
use Rattle.maze_nets.specs.Nets.{points_of, net_points}
use Rattle.maze_nets.proofs.Lists.{get_in, point_reserved}
use Rattle.maze_nets.proofs.Running.{points_at, point_free, seated, connected, not_reached, stopped, whole, whole_none, from_err, from_ok}
use Rattle.maze_nets.proofs.routing.route_net.Goals as goal

pub returns-then-count-eq0-clause-whole : goal.returns-then-count-eq0-clause-whole
returns-then-count-eq0-clause-whole c =
    let same = points_at c.args.nets.now c.args.net c.index-nets-net.result _ c.requires.net c.index-nets-net.is in
    let none : length (points_of c.index-nets-net.result) ≡ 0 = (let a = c.len-count.ensures in let b = c.if-count-eq0.true in omega arith) in
    whole_none (net_points c.args.nets.now c.args.net) _ (ap length same ∙ none) c.requires.bare

pub seat-requires-clause-free : goal.seat-requires-clause-free
seat-requires-clause-free c =
    let same = points_at c.args.nets.now c.args.net c.index-nets-net.result _ c.requires.net c.index-nets-net.is in
    let e = subst (λ (xs : List Node). slice_get xs 0 ≡ Some c.point.result) (sym same) c.point.ensures in
    point_free c.args.router.now.occupied.grid c.args.nets.now c.requires.routable c.args.router.now c.requires.orderly.owners c.args.net 0 c.point.result e

pub loop-at-init : goal.loop-at-init
loop-at-init c =
    let same = points_at c.args.nets.now c.args.net c.index-nets-net.result _ c.requires.net c.index-nets-net.is in
    let e = subst (λ (xs : List Node). slice_get xs 0 ≡ Some c.point.result) (sym same) c.point.ensures in
    seated c.args.router.now.occupied.grid c.args.nets.now c.requires.routable c.args.net c.point.result c.args.router.now c.seat.new.self c.requires.orderly c.requires.net c.requires.bare e c.seat.ensures

pub connect-requires-clause-within : goal.connect-requires-clause-within
connect-requires-clause-within c =
    let same = points_at c.args.nets.now c.args.net c.index-nets-net.result _ c.requires.net c.index-nets-net.is in
    let q = c.point-in-loop-at.result in
    let e = subst (λ (xs : List Node). slice_get xs c.loop-at.at ≡ Some q) (sym same) c.point-in-loop-at.ensures in
    subst (λ (g : Grid). IsInGrid g q) (sym c.loop-at.invariant.orderly.owners.grid)
    (c.requires.routable.within c.args.net q (point_reserved c.args.nets.now c.args.net q (get_in (net_points c.args.nets.now c.args.net) c.loop-at.at q e)))

pub connect-requires-clause-new : goal.connect-requires-clause-new
connect-requires-clause-new c =
    let same = points_at c.args.nets.now c.args.net c.index-nets-net.result _ c.requires.net c.index-nets-net.is in
    let q = c.point-in-loop-at.result in
    let e = subst (λ (xs : List Node). slice_get xs c.loop-at.at ≡ Some q) (sym same) c.point-in-loop-at.ensures in
    not_reached c.args.router.now.occupied.grid c.args.nets.now c.requires.routable c.args.net c.loop-at.at q c.args.router.now c.loop-at.router c.loop-at.invariant e

pub returns-then-is_err-clause-stops : goal.returns-then-is_err-clause-stops
returns-then-is_err-clause-stops c =
    let same = points_at c.args.nets.now c.args.net c.index-nets-net.result _ c.requires.net c.index-nets-net.is in
    let q = c.point-in-loop-at.result in
    let e = subst (λ (xs : List Node). slice_get xs c.loop-at.at ≡ Some q) (sym same) c.point-in-loop-at.ensures in
    let none = (from_err c.connect.result c.is_err.result c.is_err.ensures.value c.if-is_err.true c.connect.ensures.none).1 in
    let stays = (from_err c.connect.result c.is_err.result c.is_err.ensures.value c.if-is_err.true c.connect.ensures.same).1 in
    rw stays (stopped c.args.router.now.occupied.grid c.args.nets.now c.args.net c.loop-at.at q c.args.router.now c.loop-at.router c.loop-at.invariant e none)

pub loop-at-preserved : goal.loop-at-preserved
loop-at-preserved c =
    let same = points_at c.args.nets.now c.args.net c.index-nets-net.result _ c.requires.net c.index-nets-net.is in
    let q = c.point-in-loop-at.result in
    let e = subst (λ (xs : List Node). slice_get xs c.loop-at.at ≡ Some q) (sym same) c.point-in-loop-at.ensures in
    let r = from_ok c.connect.result c.is_err.result c.is_err.ensures.value c.if-is_err.false c.connect.ensures.path in
    connected c.args.router.now.occupied.grid c.args.nets.now c.requires.routable c.args.net c.loop-at.at r.0 q r.1.0 c.args.router.now c.loop-at.router c.connect.new.self
    c.requires.net c.loop-at.invariant e r.1.1

pub returns-clause-whole : goal.returns-clause-whole
returns-clause-whole c =
    let same = points_at c.args.nets.now c.args.net c.index-nets-net.result _ c.requires.net c.index-nets-net.is in
    let count : length (net_points c.args.nets.now c.args.net) ≡ length (points_of c.index-nets-net.result) = ap length same in
    whole c.args.router.now.occupied.grid c.args.nets.now c.args.net c.loop-at.at c.args.router.now c.loop-at.router c.loop-at.invariant
    (let a = c.loop-at-test.false in let b = c.len-count.ensures in let d = c.loop-at.auto.at-end in omega arith)
