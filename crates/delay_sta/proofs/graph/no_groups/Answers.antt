use Rattle.std.proofs.Common.{◌≡◌, ℕ, ◌<◌, List, [], length, ap, sym, subst, arith}
use Rattle.std.specs.Global.{Vec}
use Rattle.std.proofs.lemmas.List.{length_push}
use Rattle.delay_sta.specs.declared.graph.TimedArc.{TimedArc}
use Rattle.delay_sta.specs.Graph.{group_of}
use Rattle.delay_sta.proofs.Grouping.{no_arcs, empty_more}
use Rattle.delay_sta.proofs.graph.no_groups.Goals as goal

pub loop-preserved : goal.loop-preserved
loop-preserved c =
    let p = length_push c.loop.groups.items c.new.result in
    let e = ap length c.in_ok-push.ensures.items in
    let m = c.loop.invariant.many in
    record {
      many = omega (arith, p, e, m);
      empty = subst (λ (gs : List (Vec TimedArc)). (class : ℕ) → class < length gs → group_of gs class ≡ []) (sym c.in_ok-push.ensures.items) (empty_more c.loop.groups.items c.new.result c.new.ensures.items c.loop.invariant.empty);
    }

pub returns-clause-empty : goal.returns-clause-empty
returns-clause-empty c = no_arcs c.loop.groups.items c.loop.invariant.empty
