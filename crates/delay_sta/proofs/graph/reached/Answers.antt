use Rattle.std.proofs.Common.{◌≡◌, ◌<◌, ◌+◌, ◌∙◌, false, List, ℕ, length, get_or, take, sym, subst, arith}
use Rattle.std.specs.Prelude.{slice_set}
use Rattle.std.specs.Global.{Vec}
use Rattle.std.proofs.lemmas.List.{get_or_default, take_all, length-set}
use Rattle.delay_sta.specs.declared.graph.TimedArc.{TimedArc}
use Rattle.delay_sta.specs.Graph.{AreOnward}
use Rattle.delay_sta.proofs.Reaching.{onward_push, onward_skip, next_onward}
use Rattle.delay_sta.proofs.graph.reached.Goals.{then-not-arc+in_ok-push, else-not-arc}
use Rattle.delay_sta.proofs.graph.reached.Goals as goal

abbrev plain : TimedArc
plain = record { from = 0; to = 0; delay = 0; begins = false; owner = 0; input = 0; output = 0 }

pub loop-arc-preserved : goal.loop-arc-preserved
loop-arc-preserved c =
    let arcs = c.args.arcs.now in
    let k = c.loop-arc.arc-index in
    let x : TimedArc = get_or arcs k plain in
    let lists = c.loop-arc.lists.items in
    let at = get_or_default arcs k plain (get_or arcs k plain) c.loop-arc-test.true in
    let m = c.loop-arc.invariant.many in
    elim c.if-not-arc.branch [
      | then-not-arc+in_ok-push w ↦
          let l : x.from < c.args.count = c.requires k plain c.loop-arc-test.true in
          let next = next_onward arcs k x (slice_set lists x.from w.push.new.self) c.loop-arc-test.true at
          (onward_push (take k arcs) x lists w.index_mut.result.now w.push.new.self c.loop-arc.invariant.onward w.if-not-arc.true (omega (arith, l, m)) w.index_mut.ensures.value w.in_ok-push.ensures.items) in
          subst (λ (v : Vec (Vec ℕ)). record { many : length v.items ≡ c.args.count; onward : AreOnward (take (k + 1) arcs) v.items }) (sym w.lists-is)
          (record { many = length-set lists x.from w.push.new.self ∙ m; onward = next })
      | else-not-arc w ↦
          let next = next_onward arcs k x lists c.loop-arc-test.true at (onward_skip (take k arcs) x lists c.loop-arc.invariant.onward w.if-not-arc.false) in
          subst (λ (v : Vec (Vec ℕ)). record { many : length v.items ≡ c.args.count; onward : AreOnward (take (k + 1) arcs) v.items }) (sym w.lists-is)
          (record { many = m; onward = next })
    ]

pub returns-clause-reached : goal.returns-clause-reached
returns-clause-reached c = subst (λ (xs : List TimedArc). AreOnward xs c.loop-arc.lists.items) (take_all c.loop-arc.arc-index c.args.arcs.now c.loop-arc-test.false) c.loop-arc.invariant.onward
