use Rattle.std.proofs.Common.{◌≡◌, ◌⊎◌, ℕ, false, List, Option, get_or, subst}
use Rattle.std.proofs.lemmas.List.{get_or_default, take_all}
use Rattle.delay_sta.specs.declared.graph.TimedArc.{TimedArc}
use Rattle.delay_sta.specs.Graph.{IsLatest, IsBy}
use Rattle.delay_sta.proofs.Settling.{latest_start, latest_more}
use Rattle.delay_sta.proofs.settle.latest.Goals as goal

abbrev plain : TimedArc
plain = record { from = 0; to = 0; delay = 0; begins = false; owner = 0; input = 0; output = 0 }

pub loop-arc-init : goal.loop-arc-init
loop-arc-init c = latest_start c.args.start c.args.arrivals.now

pub arrival_by-requires : goal.arrival_by-requires
arrival_by-requires c = record {
  inside = c.requires.inside c.loop-arc.arc-index plain c.loop-arc-test.true;
  few = c.requires.few c.loop-arc.arc-index plain c.loop-arc-test.true;
}

pub loop-arc-preserved : goal.loop-arc-preserved
loop-arc-preserved c =
    latest_more c.args.start c.args.arrivals.now c.args.arcs.now c.loop-arc.arc-index (get_or c.args.arcs.now c.loop-arc.arc-index plain) c.loop-arc.latest c.later-latest.result c.loop-arc-test.true
    (get_or_default c.args.arcs.now c.loop-arc.arc-index plain (get_or c.args.arcs.now c.loop-arc.arc-index plain) c.loop-arc-test.true) c.loop-arc.invariant
    (subst (λ (o : Option ℕ). (c.later-latest.result ≡ c.loop-arc.latest) ⊎ (c.later-latest.result ≡ o)) c.arrival_by.ensures c.later-latest.ensures.is)
    c.later-latest.ensures.one (subst (λ (o : Option ℕ). IsBy o c.later-latest.result) c.arrival_by.ensures c.later-latest.ensures.other)

pub returns : goal.returns
returns c =
    subst (λ (xs : List TimedArc). IsLatest c.args.start c.args.arrivals.now xs c.loop-arc.latest)
    (take_all c.loop-arc.arc-index c.args.arcs.now c.loop-arc-test.false) c.loop-arc.invariant
