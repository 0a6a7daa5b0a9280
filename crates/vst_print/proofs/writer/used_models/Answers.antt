use Rattle.std.proofs.Common.{◌∙◌, ◌<◌, map, length, take, sym, ap, subst}
use Rattle.net_core.specs.declared.frame.Node.{Node}
use Rattle.net_core.specs.Frame.{instance_of}
use Rattle.net_core.specs.Netlist.{Instance}
use Rattle.vst_print.specs.Written.{each_once}
use Rattle.vst_print.proofs.Once.{learned_once}
use Rattle.vst_print.proofs.Tested.{text_here}
use Rattle.vst_print.proofs.Whole.{models_more}
use Rattle.vst_print.proofs.writer.used_models.Goals as goal

pub loop-node-preserved : goal.loop-node-preserved
loop-node-preserved c =
    let models = c.args.models.now in
    let nodes = c.args.nodes.now in
    let k = c.loop-node.node-index in
    let d = c.node-item.result in
    let t = c.index-models-node.result in
    let less = c.loop-node-test.true in
    let inside : d.model < length models = subst (λ (x : Node). x.model < length models) (sym c.node-item.is) (c.requires k d less) in
    let model = text_here models d.model t inside c.index-models-node.is in
    let ts = map (λ (i : Instance). i.model) (map (instance_of models) (take k nodes)) in
    learned_once ts c.loop-node.used c.learn.new.self t c.loop-node.invariant c.in_ok-learn.ensures.learned ∙ ap each_once (sym (models_more models nodes k d t less c.node-item.is model))
