use Rattle.std.proofs.Common.{◌+◌, ◌∙◌, List, ap, length, refl, sym, subst, arith}
use Rattle.std.specs.Prelude.{slice_index}
use Rattle.std.specs.Global.{Vec}
use Rattle.std.proofs.lemmas.List.{length-map}
use Rattle.std.proofs.lemmas.Option.{slice_get_read, slice_get_past}
use Rattle.cell_model.specs.Cell.{Cell}
use Rattle.cell_model.specs.Library.{Library}
use Rattle.net_core.specs.Frame.{instance_of}
use Rattle.delay_sta.specs.Graph.{AreFound, AddsArcs}
use Rattle.delay_sta.specs.declared.graph.TimedArc.{TimedArc}
use Rattle.delay_sta.proofs.Gathering.{AreSoFar, at_node, node_some, node_none, all_so_far}
use Rattle.delay_sta.proofs.graph.timed_arcs.Goals.{in-Some+in_ok-push_arcs, in_default}
use Rattle.delay_sta.proofs.graph.timed_arcs.Goals as goal

pub loop-owner-preserved : goal.loop-owner-preserved
loop-owner-preserved c =
    let same = ap (λ (x : Library). x.cells) c.cells.ensures.value in
    let at = at_node c.args.netlist.now c.args.library.now c.args.netlist.now.models c.cells.result.now c.nodes-nodes.result.now c.args.places.now c.loop-owner.owner c.index-nodes-owner.result refl same c.nodes-nodes.ensures.seen
    c.nodes-nodes.ensures.known (subst (λ (cs : List Cell). AreFound cs c.args.netlist.now.models c.args.places.now) (sym same) c.requires.cells) c.loop-owner-test.true c.index-nodes-owner.is in
    elim c.match-get.branch [
      | in-Some+in_ok-push_arcs w ↦
          let s = slice_get_read c.cells.result.now (length c.cells.result.now) (slice_index c.args.places.now c.index-nodes-owner.result.model) w.in-Some.cell.now refl w.in-Some.ensures.lookup.3.0 w.in-Some.ensures.lookup.1 in
          node_some c.args.netlist.now c.args.library.now c.requires.sound c.args.loads.now c.requires.loads c.loop-owner.arcs.items c.match-get.arcs.items c.loop-owner.owner c.index-nodes-owner.result w.in-Some.cell.now
          (record { stands = at.stands; cell = at.cell ∙ s })
          (subst (λ (v : Vec TimedArc). AddsArcs c.args.netlist.now (slice_index c.args.loads.now) c.loop-owner.owner w.in-Some.cell.now c.loop-owner.arcs.items v.items) (sym w.arcs-is) w.in_ok-push_arcs.ensures)
          c.loop-owner.invariant
      | in_default w ↦
          subst (λ (v : Vec TimedArc). AreSoFar c.args.netlist.now c.args.library.now v.items (c.loop-owner.owner + 1)) (sym w.arcs-is)
          (node_none c.args.netlist.now c.args.library.now c.loop-owner.arcs.items c.loop-owner.owner c.index-nodes-owner.result
          (record { stands = at.stands; cell = at.cell ∙ slice_get_past c.cells.result.now (slice_index c.args.places.now c.index-nodes-owner.result.model) w.in_default.ensures.lookup.3 }) c.loop-owner.invariant)
    ]

pub returns : goal.returns
returns c =
    let e = ap length c.nodes-nodes.ensures.seen in
    let m = length-map c.nodes-nodes.result.now (instance_of c.args.netlist.now.models) in
    let t = c.loop-owner-test.false in
    all_so_far c.args.netlist.now c.args.library.now c.loop-owner.arcs.items c.loop-owner.owner (omega (arith, e, m, t)) c.loop-owner.invariant
