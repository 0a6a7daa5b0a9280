use Rattle.std.proofs.Common.{ℕ, suc, ◌≡◌, ◌+◌, ◌∙◌, List, Some, length, take, drop, ap, arith, sym, subst}
use Rattle.std.specs.Prelude.{reverse, slice_index_or}
use Rattle.std.proofs.lemmas.List.{take_all}
use Rattle.grid_core.specs.declared.grid.Grid.{Grid}
use Rattle.grid_core.specs.Routes.{Tree}
use Rattle.grid_core.specs.Trees.{IsNetOrder}
use Rattle.maze_nets.specs.Nets.{half_perimeter}
use Rattle.maze_nets.specs.Progress.{IsOrderly, HasRouted}
use Rattle.maze_nets.proofs.Lists.{place_in}
use Rattle.maze_nets.proofs.Taking.{not_before, not_after, all_below, order_split, reverse_more, one_more, stuck_at, none_from, no_tree_from}
use Rattle.maze_nets.proofs.routing.route_in_order.Goals as goal

pub route_net-requires-clause-net : goal.route_net-requires-clause-net
route_net-requires-clause-net c = (c.requires.order.each (slice_index_or c.args.order.now c.loop-net.net-index 0)).0 (place_in c.args.order.now c.loop-net.net-index 0 c.loop-net-test.true)

pub route_net-requires-clause-bare : goal.route_net-requires-clause-bare
route_net-requires-clause-bare c =
    let order = c.args.order.now in
    let i = c.loop-net.net-index in
    c.loop-net.invariant.untouched (slice_index_or order i 0) (not_before (half_perimeter c.args.nets.now) (length c.args.nets.now) order c.requires.order i c.loop-net-test.true)

pub returns-in-Some-clause-only : goal.returns-in-Some-clause-only
returns-in-Some-clause-only c =
    let nets = c.args.nets.now in
    let order = c.args.order.now in
    let i = c.loop-net.net-index in
    let k = slice_index_or order i 0 in
    let half = half_perimeter nets in
    let inv = c.loop-net.invariant in
    let orderly = subst (λ (h : Grid). IsOrderly h nets c.route_net.new.router) inv.orderly.owners.grid c.route_net.ensures.orderly in
    none_from c.args.router.now.occupied.grid nets (reverse (take i order)) k c.loop-net.router c.route_net.new.router inv
    (not_before half (length nets) order c.requires.order i c.loop-net-test.true) orderly c.route_net.ensures.grows
    (length nets) ((c.requires.order.each k).0 (place_in order i 0 c.loop-net-test.true)) (λ j h. all_below half (length nets) order c.requires.order i j h)

pub returns-in-Some-clause-stuck : goal.returns-in-Some-clause-stuck
returns-in-Some-clause-stuck c =
    let nets = c.args.nets.now in
    let order = c.args.order.now in
    let i = c.loop-net.net-index in
    let k = slice_index_or order i 0 in
    let half = half_perimeter nets in
    let inv = c.loop-net.invariant in
    let stops = c.in-Some.ensures.stops in
    let orderly = subst (λ (h : Grid). IsOrderly h nets c.route_net.new.router) inv.orderly.owners.grid c.route_net.ensures.orderly in
    let stuck = stuck_at c.args.router.now.occupied.grid nets (reverse (take i order)) k c.loop-net.router c.route_net.new.router inv
    (not_before half (length nets) order c.requires.order i c.loop-net-test.true) orderly c.route_net.ensures.grows
    c.in-Some.point (drop (i + 1) order) (not_after half (length nets) order c.requires.order i c.loop-net-test.true) stops in
    let both : Some stuck.tree ≡ Some stops.tree = sym stuck.begun ∙ stops.begun in
    let same : stuck.tree ≡ stops.tree = cc both in
    record {
      earlier = reverse (take i order);
      later = drop (i + 1) order;
      sorted = subst (IsNetOrder half (length nets)) (sym (order_split order i c.loop-net-test.true)) c.requires.order;
      point = stops.point;
      numbered = stops.next;
      stuck = stuck;
      number = ap (λ (t : Tree). suc (length t.paths)) same ∙ stops.reached;
    }

pub loop-net-preserved : goal.loop-net-preserved
loop-net-preserved c =
    let nets = c.args.nets.now in
    let order = c.args.order.now in
    let i = c.loop-net.net-index in
    let k = slice_index_or order i 0 in
    let g = c.args.router.now.occupied.grid in
    let inv = c.loop-net.invariant in
    let orderly = subst (λ (h : Grid). IsOrderly h nets c.route_net.new.router) inv.orderly.owners.grid c.route_net.ensures.orderly in
    subst (λ (xs : List ℕ). HasRouted g nets xs c.route_net.new.router) (sym (reverse_more order i c.loop-net-test.true))
    (one_more g nets (reverse (take i order)) k c.loop-net.router c.route_net.new.router inv
    (not_before (half_perimeter nets) (length nets) order c.requires.order i c.loop-net-test.true) orderly c.route_net.ensures.grows c.in_default.ensures.whole)

pub returns-clause-only : goal.returns-clause-only
returns-clause-only c =
    let order = c.args.order.now in
    let all : take c.loop-net.net-index order ≡ order = take_all c.loop-net.net-index order (let a = c.loop-net-test.false in omega arith) in
    no_tree_from c.args.router.now.occupied.grid c.args.nets.now order c.loop-net.router c.requires.order
    (subst (λ (xs : List ℕ). HasRouted c.args.router.now.occupied.grid c.args.nets.now (reverse xs) c.loop-net.router) all c.loop-net.invariant)
