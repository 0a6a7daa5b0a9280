use Rattle.std.proofs.Common.{◌≡◌, ◌+◌, ◌-◌, ◌^◌, min, ap, ◌∙◌, sym, arith}
use Rattle.std.specs.Prelude.{slice_index_or}
use Rattle.std.proofs.lemmas.List.{length-map}
use Rattle.bool_expr.specs.View.{view}
use Rattle.net_core.specs.Frame.{instance_of}
use Rattle.net_machine.specs.declared.known.Known.{Known}
use Rattle.net_machine.specs.Body.{load_view, body_view, width}
use Rattle.net_machine.proofs.Knowing.{AreNodes}
use Rattle.net_machine.proofs.Gathering.{node_next, body_here, count_next}
use Rattle.net_machine.proofs.count.count_bits.Goals as goal

pub loop-node-preserved : goal.loop-node-preserved
loop-node-preserved c =
    let n = c.args.netlist.now in
    let are : AreNodes c.args.netlist.now c.nodes-node-items.result.now = record { seen = c.nodes-node-items.ensures.seen; inside = c.nodes-node-items.ensures.known } in
    let i = instance_of n.models c.node-item.result in
    let here = node_next n c.nodes-node-items.result.now c.loop-node.node-index c.node-item.result are c.loop-node-test.true c.node-item.is in
    let body = (slice_index_or c.args.known.now c.node-item.result.model c.index-known-node.result).body in
    let loads = length-map body.loads.items load_view in
    let inner = length-map body.inner.items view in
    let counted : c.saturating_add-count.result ≡ min (c.loop-node.count + width (body_view body)) (2 ^ 64 - 1) =
    omega (arith, c.saturating_add-count.ensures, c.len.ensures, c.len-in-loop-node.ensures, loads, inner) in
    record {
      fits = omega (arith, counted);
      whole = λ l knows. count_next n l c.loop-node.node-index c.loop-node.count c.saturating_add-count.result _ (body_view body) i here
          (ap (λ (m : Known). body_view m.body) (sym c.index-known-node.is) ∙ body_here n l c.args.known.now c.nodes-node-items.result.now c.loop-node.node-index c.node-item.result c.index-known-node.result are knows c.loop-node-test.true c.node-item.is c.index-known-node.is)
          counted (c.loop-node.invariant.whole l knows);
    }
