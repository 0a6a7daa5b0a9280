use Rattle.std.proofs.Common.{◌∙◌, Option, ap, subst}
use Rattle.std.specs.Prelude.{slice_index, IfSome}
use Rattle.std.specs.Global.{Vec}
use Rattle.delay_sta.specs.declared.graph.TimedArc.{TimedArc}
use Rattle.delay_sta.specs.Graph.{IsFoundAs, IsShort}
use Rattle.delay_sta.proofs.Gathering.{adds_found, adds_nothing, adds_arcs}
use Rattle.delay_sta.proofs.graph.push_arcs.Goals.{in-Some+in_ok-push, in_default}
use Rattle.delay_sta.proofs.graph.push_arcs.Goals as goal

pub loop-arc-preserved : goal.loop-arc-preserved
loop-arc-preserved c = elim c.match-timed_arc.branch [
  | in-Some+in_ok-push w ↦
      adds_found c.args.netlist.now (slice_index c.args.loads.now) c.args.owner c.args.cell.now c.as_slice-arc-items.result.now c.loop-arc.arc-index c.arc-item.result w.in-Some.timed c.args.arcs.now.items c.loop-arc.arcs.items c.match-timed_arc.arcs.items
      c.loop-arc-test.true c.arc-item.is c.loop-arc.invariant
      (subst (λ (o : Option TimedArc). IsFoundAs c.args.netlist.now (slice_index c.args.loads.now) c.args.owner c.args.cell.now c.arc-item.result o) w.in-Some.is c.timed_arc.ensures.found)
      (subst (λ (o : Option TimedArc). IfSome o IsShort) w.in-Some.is c.timed_arc.ensures.short) (ap (λ (v : Vec TimedArc). v.items) w.arcs-is ∙ w.in_ok-push.ensures.items)
  | in_default w ↦
      adds_nothing c.args.netlist.now (slice_index c.args.loads.now) c.args.owner c.args.cell.now c.as_slice-arc-items.result.now c.loop-arc.arc-index c.arc-item.result c.args.arcs.now.items c.loop-arc.arcs.items c.match-timed_arc.arcs.items
      c.loop-arc-test.true c.arc-item.is c.loop-arc.invariant
      (subst (λ (o : Option TimedArc). IsFoundAs c.args.netlist.now (slice_index c.args.loads.now) c.args.owner c.args.cell.now c.arc-item.result o) w.in_default.is c.timed_arc.ensures.found) (ap (λ (v : Vec TimedArc). v.items) w.arcs-is)
]

pub returns : goal.returns
returns c = adds_arcs c.args.netlist.now (slice_index c.args.loads.now) c.args.owner c.args.cell.now c.as_slice-arc-items.result.now c.loop-arc.arc-index c.args.arcs.now.items c.loop-arc.arcs.items c.as_slice-arc-items.ensures c.loop-arc-test.false c.loop-arc.invariant
