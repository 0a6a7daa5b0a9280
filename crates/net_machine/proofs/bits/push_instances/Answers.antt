use Rattle.std.proofs.Common.{ap, ◌∙◌, sym, subst}
use Rattle.net_core.specs.Frame.{instance_of}
use Rattle.net_machine.specs.declared.known.Known.{Known}
use Rattle.net_machine.specs.Body.{body_view}
use Rattle.net_machine.specs.Gathered.{HasPins, IsBodyOver}
use Rattle.net_machine.proofs.Knowing.{AreNodes}
use Rattle.net_machine.proofs.Gathering.{node_next, body_here, pins_here, over_here, width_few, widths_next, stored_next, driven_next}
use Rattle.net_machine.proofs.bits.push_instances.Goals as goal

pub push_instance-requires-clause-pins : goal.push_instance-requires-clause-pins
push_instance-requires-clause-pins c =
    let are : AreNodes c.args.netlist.now c.nodes-node-items.result.now = record { seen = c.nodes-node-items.ensures.seen; inside = c.nodes-node-items.ensures.known } in
    subst (λ (m : Known). HasPins c.args.netlist.now c.node-item.result.name (body_view m.body)) c.index-known-node.is
    (pins_here c.args.netlist.now c.args.known.now c.nodes-node-items.result.now c.loop-node.node-index c.node-item.result c.index-known-node.result are c.requires.known c.loop-node-test.true c.node-item.is c.index-known-node.is)

pub push_instance-requires-clause-over : goal.push_instance-requires-clause-over
push_instance-requires-clause-over c =
    let are : AreNodes c.args.netlist.now c.nodes-node-items.result.now = record { seen = c.nodes-node-items.ensures.seen; inside = c.nodes-node-items.ensures.known } in
    subst (λ (m : Known). IsBodyOver (body_view m.body)) c.index-known-node.is (over_here c.args.netlist.now c.args.known.now c.nodes-node-items.result.now c.loop-node.node-index c.node-item.result c.index-known-node.result are c.requires.known c.loop-node-test.true c.node-item.is c.index-known-node.is)

pub push_instance-requires-clause-few : goal.push_instance-requires-clause-few
push_instance-requires-clause-few c =
    let n = c.args.netlist.now in
    let are : AreNodes c.args.netlist.now c.nodes-node-items.result.now = record { seen = c.nodes-node-items.ensures.seen; inside = c.nodes-node-items.ensures.known } in
    let l = c.requires.known.library in
    let knows = c.requires.known.knows in
    width_few n l c.loop-node.node-index c.loop-node.base _ _ _ (node_next n c.nodes-node-items.result.now c.loop-node.node-index c.node-item.result are c.loop-node-test.true c.node-item.is)
    (ap (λ (m : Known). body_view m.body) (sym c.index-known-node.is) ∙ body_here n l c.args.known.now c.nodes-node-items.result.now c.loop-node.node-index c.node-item.result c.index-known-node.result are knows c.loop-node-test.true c.node-item.is c.index-known-node.is)
    (c.loop-node.invariant.end l knows) (c.requires.few l knows)

pub loop-node-preserved : goal.loop-node-preserved
loop-node-preserved c =
    let n = c.args.netlist.now in
    let are : AreNodes c.args.netlist.now c.nodes-node-items.result.now = record { seen = c.nodes-node-items.ensures.seen; inside = c.nodes-node-items.ensures.known } in
    let i = instance_of n.models c.node-item.result in
    let here = node_next n c.nodes-node-items.result.now c.loop-node.node-index c.node-item.result are c.loop-node-test.true c.node-item.is in
    record {
      end = λ l knows. widths_next n l c.loop-node.node-index c.loop-node.base c.in_ok-base.base _ _ i here
          (ap (λ (m : Known). body_view m.body) (sym c.index-known-node.is) ∙ body_here n l c.args.known.now c.nodes-node-items.result.now c.loop-node.node-index c.node-item.result c.index-known-node.result are knows c.loop-node-test.true c.node-item.is c.index-known-node.is) c.in_ok-base.ensures.next (c.loop-node.invariant.end l knows);
      stored = λ l knows class function. stored_next n l class c.loop-node.node-index c.loop-node.base c.in_ok-base.base _ i _ _ _ here
          (ap (λ (m : Known). body_view m.body) (sym c.index-known-node.is) ∙ body_here n l c.args.known.now c.nodes-node-items.result.now c.loop-node.node-index c.node-item.result c.index-known-node.result are knows c.loop-node-test.true c.node-item.is c.index-known-node.is) c.in_ok-base.ensures.next
          (c.in_ok-base.ensures.stored class function) (c.loop-node.invariant.stored l knows class function);
      driven = λ l knows class function. driven_next n l class c.loop-node.node-index c.loop-node.base c.in_ok-base.base _ i _ _ _ here
          (ap (λ (m : Known). body_view m.body) (sym c.index-known-node.is) ∙ body_here n l c.args.known.now c.nodes-node-items.result.now c.loop-node.node-index c.node-item.result c.index-known-node.result are knows c.loop-node-test.true c.node-item.is c.index-known-node.is) c.in_ok-base.ensures.next
          (c.in_ok-base.ensures.driven class function) (c.loop-node.invariant.driven l knows class function);
      inputs = c.in_ok-base.ensures.inputs ∙ c.loop-node.invariant.inputs;
    }
