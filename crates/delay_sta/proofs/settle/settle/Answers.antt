use Rattle.std.proofs.Common.{◌≡◌, ◌<◌, ◌+◌, ◌∙◌, ℕ, false, Bool, None, Option, List, get_or, length, sym, subst, arith}
use Rattle.std.proofs.lemmas.Option.{slice_get-get_or}
use Rattle.std.specs.List.{All}
use Rattle.std.specs.Prelude.{slice_set}
use Rattle.net_core.specs.Places.{Stands, IsThere}
use Rattle.delay_sta.specs.declared.graph.TimedArc.{TimedArc}
use Rattle.delay_sta.specs.Graph.{group_of, numbers_of, IsLatest}
use Rattle.delay_sta.proofs.Grouping.{group_at}
use Rattle.delay_sta.proofs.Reaching.{numbers_at}
use Rattle.delay_sta.proofs.Settling.{class_inside, inside_at, few_at}
use Rattle.delay_sta.proofs.Passing.{ArePassed, before_of, passed_fresh, passed_same, passed_changed, all_settled, all_fresh, reached_low, changed_of, same_of}
use Rattle.delay_sta.proofs.settle.settle.Goals.{then-stale-class+then-ne, then-stale-class+else-ne, else-stale-class}
use Rattle.delay_sta.proofs.settle.settle.Goals as goal

pub bounds-stale-class : goal.bounds-stale-class
bounds-stale-class c =
    let l = class_inside c.args.graph.0.now c.args.order.now (length c.args.arrivals.now) c.loop-class.class-index c.requires.graph c.loop-class-test.true in
    let m = c.loop-class.invariant.many.1 in
    omega (arith, l, m)

pub latest-arrival-requires-clause-inside : goal.latest-arrival-requires-clause-inside
latest-arrival-requires-clause-inside c =
    let groups = c.args.graph.0.now in
    let class = get_or c.args.order.now c.loop-class.class-index 0 in
    let l = class_inside groups c.args.order.now (length c.args.arrivals.now) c.loop-class.class-index c.requires.graph c.loop-class-test.true in
    let m = c.requires.graph.many in
    let e : c.deref.result.now ≡ group_of groups class = c.deref.ensures.value ∙ sym (group_at groups class c.index-arcs-class.result (omega (arith, l, m)) c.index-arcs-class.is) in
    let before = before_of groups c.args.order.now (length c.args.arrivals.now) c.args.starts.now c.loop-class.arrivals c.loop-class.stale c.loop-class.class-index c.requires.graph c.loop-class.invariant in
    inside_at groups c.args.order.now (length c.args.arrivals.now) c.args.starts.now c.loop-class.arrivals c.loop-class.class-index c.requires.graph c.requires.starts before
    class c.deref.result.now c.loop-class.invariant.many.0 e

pub latest-arrival-requires-clause-few : goal.latest-arrival-requires-clause-few
latest-arrival-requires-clause-few c =
    let groups = c.args.graph.0.now in
    let class = get_or c.args.order.now c.loop-class.class-index 0 in
    let l = class_inside groups c.args.order.now (length c.args.arrivals.now) c.loop-class.class-index c.requires.graph c.loop-class-test.true in
    let m = c.requires.graph.many in
    let e : c.deref.result.now ≡ group_of groups class = c.deref.ensures.value ∙ sym (group_at groups class c.index-arcs-class.result (omega (arith, l, m)) c.index-arcs-class.is) in
    let before = before_of groups c.args.order.now (length c.args.arrivals.now) c.args.starts.now c.loop-class.arrivals c.loop-class.stale c.loop-class.class-index c.requires.graph c.loop-class.invariant in
    few_at groups c.args.order.now (length c.args.arrivals.now) c.args.starts.now c.loop-class.arrivals c.loop-class.class-index c.requires.graph c.requires.starts before
    class c.deref.result.now (slice_get-get_or c.args.order.now c.loop-class.class-index 0 c.loop-class-test.true) e

pub mark-requires : goal.mark-requires
mark-requires c =
    let groups = c.args.graph.0.now in
    let class = get_or c.args.order.now c.loop-class.class-index 0 in
    let l = class_inside groups c.args.order.now (length c.args.arrivals.now) c.loop-class.class-index c.requires.graph c.loop-class-test.true in
    let m = c.requires.graph.many in
    let n = c.requires.reached.many in
    let e : c.deref-then-ne.result.now ≡ numbers_of c.args.graph.1.now class =
    c.deref-then-ne.ensures.value ∙ sym (numbers_at c.args.graph.1.now class c.index-reached-class.result (omega (arith, l, m, n)) c.index-reached-class.is) in
    subst (λ (xs : List ℕ). All (λ d. d < length (slice_set c.loop-class.stale class false)) xs) (sym e)
    (reached_low groups c.args.order.now (length c.args.arrivals.now) c.args.starts.now c.loop-class.arrivals c.loop-class.stale c.loop-class.class-index c.requires.graph c.loop-class.invariant
    class c.args.graph.1.now c.requires.reached)

pub loop-class-preserved : goal.loop-class-preserved
loop-class-preserved c =
    let groups = c.args.graph.0.now in
    let reached = c.args.graph.1.now in
    let order = c.args.order.now in
    let count = length c.args.arrivals.now in
    let old = c.args.starts.now in
    let k = c.loop-class.class-index in
    let class = get_or order k 0 in
    let l = class_inside groups order count k c.requires.graph c.loop-class-test.true in
    let m = c.requires.graph.many in
    let n = c.requires.reached.many in
    let here : Stands order k class = slice_get-get_or order k 0 c.loop-class-test.true in
    elim c.if-stale-class.branch [
      | then-stale-class+then-ne w ↦
          let e : w.deref.result.now ≡ group_of groups class = w.deref.ensures.value ∙ sym (group_at groups class w.index-arcs-class.result (omega (arith, l, m)) w.index-arcs-class.is) in
          let f : w.deref-then-ne.result.now ≡ numbers_of reached class =
          w.deref-then-ne.ensures.value ∙ sym (numbers_at reached class w.index-reached-class.result (omega (arith, l, m, n)) w.index-reached-class.is) in
          let is : IsLatest (get_or old class None) c.loop-class.arrivals (group_of groups class) w.latest-arrival.result =
          subst (λ (xs : List TimedArc). IsLatest (get_or old class None) c.loop-class.arrivals xs w.latest-arrival.result) e w.latest-arrival.ensures in
          let next = passed_changed groups order count old c.loop-class.arrivals c.loop-class.stale k c.requires.graph c.loop-class.invariant class w.latest-arrival.result here is reached w.mark.new.stale
          c.requires.reached (changed_of w.latest-arrival.result (get_or c.loop-class.arrivals class None) (sym w.ne.ensures ∙ w.if-ne.true)) w.mark.ensures.many
          (λ d t. w.mark.ensures.marked d (subst (λ (xs : List ℕ). IsThere xs d) (sym f) t)) (λ d h. w.mark.ensures.others d (λ t. h (subst (λ (xs : List ℕ). IsThere xs d) f t))) in
          subst (λ (xs : List (Option ℕ)). ArePassed groups order count old xs c.if-stale-class.stale (k + 1)) (sym w.arrivals-is)
          (subst (λ (ys : List Bool). ArePassed groups order count old (slice_set c.loop-class.arrivals class w.latest-arrival.result) ys (k + 1)) (sym w.stale-is) next)
      | then-stale-class+else-ne w ↦
          let e : w.deref.result.now ≡ group_of groups class = w.deref.ensures.value ∙ sym (group_at groups class w.index-arcs-class.result (omega (arith, l, m)) w.index-arcs-class.is) in
          let is : IsLatest (get_or old class None) c.loop-class.arrivals (group_of groups class) w.latest-arrival.result =
          subst (λ (xs : List TimedArc). IsLatest (get_or old class None) c.loop-class.arrivals xs w.latest-arrival.result) e w.latest-arrival.ensures in
          let next = passed_same groups order count old c.loop-class.arrivals c.loop-class.stale k c.requires.graph c.loop-class.invariant class w.latest-arrival.result here is
          (same_of w.latest-arrival.result (get_or c.loop-class.arrivals class None) (sym w.ne.ensures ∙ w.if-ne.false)) in
          subst (λ (xs : List (Option ℕ)). ArePassed groups order count old xs c.if-stale-class.stale (k + 1)) (sym w.arrivals-is)
          (subst (λ (ys : List Bool). ArePassed groups order count old c.loop-class.arrivals ys (k + 1)) (sym w.stale-is) next)
      | else-stale-class w ↦
          let low = c.loop-class.invariant.many.1 in
          let fresh : get_or c.loop-class.stale class false ≡ false = w.if-stale-class.false in
          let next = passed_fresh groups order count old c.loop-class.arrivals c.loop-class.stale k c.requires.graph c.loop-class.invariant class here fresh in
          subst (λ (xs : List (Option ℕ)). ArePassed groups order count old xs c.if-stale-class.stale (k + 1)) (sym w.arrivals-is)
          (subst (λ (ys : List Bool). ArePassed groups order count old c.loop-class.arrivals ys (k + 1)) (sym w.stale-is) next)
    ]

pub returns-clause-settled : goal.returns-clause-settled
returns-clause-settled c =
    all_settled c.args.graph.0.now c.args.order.now (length c.args.arrivals.now) c.args.starts.now c.loop-class.arrivals c.loop-class.stale c.loop-class.class-index c.requires.graph c.loop-class.invariant
    c.loop-class-test.false c.requires.starts c.requires.many.0

pub returns-clause-fresh : goal.returns-clause-fresh
returns-clause-fresh c =
    all_fresh c.args.graph.0.now c.args.order.now (length c.args.arrivals.now) c.args.starts.now c.loop-class.arrivals c.loop-class.stale c.loop-class.class-index c.requires.graph c.loop-class.invariant
    c.loop-class-test.false
