use Rattle.std.proofs.Common.{◌≡◌, true, false, List, Option, Some, None, get_or, sym, ap, ◌∙◌, subst, arith}
use Rattle.std.specs.Prelude.{MatchOption}
use Rattle.std.proofs.lemmas.Option.{slice_get_within, slice_get-get_or}
use Rattle.net_core.specs.Places.{Stands}
use Rattle.delay_sta.specs.declared.graph.TimedArc.{TimedArc}
use Rattle.delay_sta.specs.Traces.{IsLatestArc}
use Rattle.delay_sta.proofs.Tracing.{arc_more}
use Rattle.delay_sta.proofs.arrivals.Delays.latest_arc.Goals as goal

abbrev plain : TimedArc
plain = record { from = 0; to = 0; delay = 0; begins = false; owner = 0; input = 0; output = 0 }

pub returns-in_err-time : goal.returns-in_err-time
returns-in_err-time c =
    let w : c.arrival.result ≡ None = c.in_err-time.was in
    subst (λ (o : Option TimedArc). MatchOption o ((x : TimedArc) → IsLatestArc c.args.self.now.arcs.items c.args.self.now.arrivals.items c.args.class x → ⊥)
    (IsLatestArc c.args.self.now.arcs.items c.args.self.now.arrivals.items c.args.class)) (sym c.from_residual.ensures)
    (λ x h. let no : None ≡ Some h.time = sym w ∙ c.arrival.ensures ∙ h.arrives in absurd cc)

pub loop-arc-init : goal.loop-arc-init
loop-arc-init c = λ j x l. absurd (omega (arith, l))

pub returns-then-arrives_by : goal.returns-then-arrives_by
returns-then-arrives_by c = record {
  listed = (
    c.loop-arc.arc-index,
    subst (λ (xs : List TimedArc). Stands xs c.loop-arc.arc-index (get_or c.arcs_to-arc-items.result.now c.loop-arc.arc-index plain)) c.arcs_to-arc-items.ensures
        (slice_get-get_or c.arcs_to-arc-items.result.now c.loop-arc.arc-index plain c.loop-arc-test.true),
  );
  time = c.in_ok-time.time;
  arrives = sym c.arrival.ensures ∙ c.in_ok-time.was;
  by = c.arrives_by.ensures.0 c.if-arrives_by.true;
}

pub loop-arc-preserved : goal.loop-arc-preserved
loop-arc-preserved c =
    arc_more c.args.self.now.arrivals.items c.arcs_to-arc-items.result.now c.loop-arc.arc-index c.in_ok-time.time (get_or c.arcs_to-arc-items.result.now c.loop-arc.arc-index plain)
    (slice_get-get_or c.arcs_to-arc-items.result.now c.loop-arc.arc-index plain c.loop-arc-test.true) c.loop-arc.invariant
    (λ e. let no : true ≡ false = sym (c.arrives_by.ensures.1 e) ∙ c.if-arrives_by.false in absurd cc)

pub returns : goal.returns
returns c = λ x h.
    let s : Stands c.arcs_to-arc-items.result.now h.listed.0 x = subst (λ (xs : List TimedArc). Stands xs h.listed.0 x) (sym c.arcs_to-arc-items.ensures) h.listed.1 in
    let low = slice_get_within c.arcs_to-arc-items.result.now h.listed.0 x s in
    let all = c.loop-arc-test.false in
    let same : h.time ≡ c.in_ok-time.time = (let f : Some h.time ≡ Some c.in_ok-time.time = sym h.arrives ∙ sym c.arrival.ensures ∙ c.in_ok-time.was in cc) in
    c.loop-arc.invariant h.listed.0 x (omega (arith, low, all)) s (h.by ∙ ap Some same)
