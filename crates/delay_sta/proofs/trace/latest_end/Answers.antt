use Rattle.std.proofs.Common.{◌≡◌, ℕ, List, Some, None, length, get_or, sym, ap, ◌∙◌, subst, arith}
use Rattle.std.proofs.lemmas.Option.{slice_get-get_or}
use Rattle.net_core.specs.Places.{Stands, IsThere}
use Rattle.delay_sta.proofs.Tracing.{no_end, an_end, end_more}
use Rattle.delay_sta.proofs.trace.latest_end.Goals.{in-Some+else-time-worst, in_default}
use Rattle.delay_sta.proofs.trace.latest_end.Goals as goal

pub loop-class-init : goal.loop-class-init
loop-class-init c = λ j class l. absurd (omega (arith, l))

pub returns-then-time-worst : goal.returns-then-time-worst
returns-then-time-worst c = λ n l sound are.
    let class = get_or c.deref-class-items.result.now c.loop-class.class-index 0 in
    let there : IsThere c.args.delays.now.ends.items class = (
      c.loop-class.class-index,
      subst (λ (xs : List ℕ). Stands xs c.loop-class.class-index class) c.deref-class-items.ensures.value
          (slice_get-get_or c.deref-class-items.result.now c.loop-class.class-index 0 c.loop-class-test.true),
    ) in
    an_end n l c.args.delays.now class c.worst-worst.result are there (sym c.arrival.ensures ∙ c.in-Some.is ∙ ap Some c.if-time-worst.true) (c.worst-worst.ensures n l sound are)

pub loop-class-preserved : goal.loop-class-preserved
loop-class-preserved c =
    end_more c.args.delays.now.arrivals.items c.args.delays.now.ends.items c.deref-class-items.result.now c.loop-class.class-index c.worst-worst.result c.deref-class-items.ensures.value c.loop-class-test.true
    c.loop-class.invariant (λ e. elim c.match-arrival.branch [
      | in-Some+else-time-worst w ↦ w.if-time-worst.false (let f : Some w.in-Some.time ≡ Some c.worst-worst.result = sym w.in-Some.is ∙ c.arrival.ensures ∙ e in cc)
      | in_default w ↦ let f : Some c.worst-worst.result ≡ None = sym (c.arrival.ensures ∙ e) ∙ w.in_default.is in cc
    ])

pub returns : goal.returns
returns c = λ n l sound are.
    let same = ap length c.deref-class-items.ensures.value in
    let all = c.loop-class-test.false in
    no_end n l c.args.delays.now c.loop-class.class-index c.worst-worst.result sound are (omega (arith, same, all)) (c.worst-worst.ensures n l sound are) c.loop-class.invariant
