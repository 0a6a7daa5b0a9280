use Rattle.std.proofs.Common.{◌≡◌, ◌∙◌, sym, ap}
use Rattle.net_core.specs.Netlist.{Instance}
use Rattle.net_core.specs.Frame.{instance_of}
use Rattle.net_core.proofs.Standing.{stands_same}
use Rattle.lvx_compare.proofs.Instances.{NodeRead, node_read, node_stands}
use Rattle.lvx_compare.proofs.faults.has_model.Goals as goal

pub returns : goal.returns
returns c = λ i at.
    let n = c.args.netlist.now in
    let node = c.index-nodes-number.result in
    let r : NodeRead n c.nodes.result.now c.args.number node c.index-models-node.result =
    node_read n c.nodes.result.now c.models.result.now c.args.number node c.index-models-node.result c.nodes.ensures.seen c.nodes.ensures.known c.nodes.ensures.numbered c.models.ensures c.requires
    c.index-nodes-number.is c.index-models-node.is in
    let one : instance_of n.models node ≡ i = stands_same n.instances c.args.number (instance_of n.models node) i (node_stands n c.nodes.result.now r.listed.seen c.args.number node r.stands) at in
    let own : i.model ≡ c.index-models-node.result = sym (ap (λ (x : Instance). x.model) one) ∙ r.model in
    (λ t. own ∙ c.is_same.ensures.0 t, λ e. c.is_same.ensures.1 (sym own ∙ e))
