use Rattle.std.proofs.Common.{◌≡◌, ℕ, List, [], length, ap, sym, subst, arith}
use Rattle.std.specs.Global.{Vec}
use Rattle.std.proofs.lemmas.List.{length_push}
use Rattle.delay_sta.specs.Graph.{numbers_of}
use Rattle.delay_sta.proofs.Reaching.{empty_lists, nothing_onward}
use Rattle.delay_sta.proofs.graph.no_numbers.Goals as goal

pub loop-preserved : goal.loop-preserved
loop-preserved c =
    let p = length_push c.loop.lists.items c.new.result in
    let e = ap length c.in_ok-push.ensures.items in
    let m = c.loop.invariant.many in
    record {
      many = omega (arith, p, e, m);
      empty = subst (λ (vs : List (Vec ℕ)). (class : ℕ) → numbers_of vs class ≡ []) (sym c.in_ok-push.ensures.items) (empty_lists c.loop.lists.items c.new.result c.new.ensures.items c.loop.invariant.empty);
    }

pub returns-clause-empty : goal.returns-clause-empty
returns-clause-empty c = nothing_onward c.loop.lists.items c.loop.invariant.empty
