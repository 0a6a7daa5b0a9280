use Rattle.std.proofs.Common.{◌≡◌, ◌+◌, ℕ, List, map, length, take, Some, arith, sym, ap, ◌∙◌, subst}
use Rattle.std.proofs.lemmas.List.{take_all}
use Rattle.grid_core.specs.Trees.{IsNetOrder}
use Rattle.maze_nets.specs.declared.points.NetPoints.{NetPoints}
use Rattle.maze_nets.specs.Nets.{half_perimeter}
use Rattle.maze_nets.proofs.Lists.{get_place}
use Rattle.maze_nets.proofs.Ranking.{net_of, Ranked, ranked_more, order_is}
use Rattle.maze_nets.proofs.ranks.net_order.Goals as goal

pub loop-net-preserved : goal.loop-net-preserved
loop-net-preserved c =
    let nets = c.args.nets.now in
    let n = c.loop-net.net in
    let item = get_place nets n _ c.loop-net-test.true ∙ ap (λ (x : NetPoints). Some x) (sym c.index-nets-net.is) in
    subst (λ (ranks : List (ℕ × ℕ)). Ranked nets (n + 1) ranks) (sym c.in_ok-push.ensures.items)
    (ranked_more nets n c.index-nets-net.result c.half_perimeter.result c.loop-net.ranks.items item c.half_perimeter.ensures c.loop-net.invariant)

pub returns : goal.returns
returns c =
    let nets = c.args.nets.now in
    let sorted = c.sort.new.self.items in
    let value = c.deref-rank-items.ensures.value in
    let all : take c.loop-rank.rank-index c.deref-rank-items.result.now ≡ c.deref-rank-items.result.now = take_all c.loop-rank.rank-index c.deref-rank-items.result.now c.loop-rank-test.false in
    let order : c.loop-rank.order.items ≡ map net_of sorted = c.loop-rank.invariant ∙ (ap (map net_of) all ∙ ap (map net_of) value) in
    let count : length nets ≡ c.loop-net.net = (let a = c.loop-net-test.false in let b = c.loop-net.auto.net-end in omega arith) in
    subst (λ (xs : List ℕ). IsNetOrder (half_perimeter nets) (length nets) xs) (sym order)
    (order_is nets c.loop-net.net c.loop-net.ranks.items sorted count c.loop-net.invariant c.sort.ensures.permutation c.in_ok-sort.ensures.sorted)
