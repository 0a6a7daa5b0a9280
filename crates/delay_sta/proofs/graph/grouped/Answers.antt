use Rattle.std.proofs.Common.{◌<◌, false, List, get_or, ◌∙◌, subst, arith}
use Rattle.std.proofs.lemmas.List.{get_or_default, take_all, length-set}
use Rattle.delay_sta.specs.declared.graph.TimedArc.{TimedArc}
use Rattle.delay_sta.specs.Graph.{AreGrouped}
use Rattle.delay_sta.proofs.Grouping.{grouped_next}
use Rattle.delay_sta.proofs.graph.grouped.Goals as goal

abbrev plain : TimedArc
plain = record { from = 0; to = 0; delay = 0; begins = false; owner = 0; input = 0; output = 0 }

pub loop-arc-preserved : goal.loop-arc-preserved
loop-arc-preserved c =
    let l : (get_or c.args.arcs.now c.loop-arc.arc-index plain).to < c.args.count = c.requires c.loop-arc.arc-index plain c.loop-arc-test.true in
    let m = c.loop-arc.invariant.many in
    record {
      many = length-set c.loop-arc.groups.items (get_or c.args.arcs.now c.loop-arc.arc-index plain).to c.push.new.self ∙ c.loop-arc.invariant.many;
      grouped = grouped_next c.args.arcs.now c.loop-arc.arc-index (get_or c.args.arcs.now c.loop-arc.arc-index plain) c.loop-arc.groups.items c.index_mut.result.now c.push.new.self c.loop-arc-test.true
          (get_or_default c.args.arcs.now c.loop-arc.arc-index plain (get_or c.args.arcs.now c.loop-arc.arc-index plain) c.loop-arc-test.true) c.loop-arc.invariant.grouped (omega (arith, l, m)) c.index_mut.ensures.value c.in_ok-push.ensures.items;
    }

pub returns-clause-grouped : goal.returns-clause-grouped
returns-clause-grouped c = subst (λ (xs : List TimedArc). AreGrouped xs c.loop-arc.groups.items) (take_all c.loop-arc.arc-index c.args.arcs.now c.loop-arc-test.false) c.loop-arc.invariant.grouped
