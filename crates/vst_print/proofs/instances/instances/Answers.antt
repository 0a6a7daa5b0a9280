use Rattle.std.proofs.Common.{◌≡◌, ◌∙◌, ◌<◌, ◌≤◌, ◌++◌, ℕ, List, map, length, take, drop, get_or, sym, ap, subst}
use Rattle.std.specs.List.{All}
use Rattle.std.proofs.lemmas.Option.{get_or_from_slice_get, slice_get_within}
use Rattle.vlsi_base.specs.declared.name.Name.{Name}
use Rattle.spell_theory.specs.Layout.{text_of}
use Rattle.net_core.specs.declared.frame.Node.{Node}
use Rattle.net_core.specs.Frame.{instance_of}
use Rattle.net_core.specs.Netlist.{Instance}
use Rattle.vst_print.specs.Structure.{instance_end}
use Rattle.vst_print.specs.Written.{mapped}
use Rattle.vst_print.specs.Pieces.{label_text, maps_text}
use Rattle.vst_print.proofs.Tested.{text_here, node_here, of_node}
use Rattle.vst_print.proofs.Joined.{instances_start, own_many, instances_next}
use Rattle.vst_print.proofs.instances.instances.Goals as goal

at_all : (models : List (List ℕ)) (nodes : List Node) (k : ℕ) (d : Node) → k < length nodes → d ≡ get_or nodes k d
    → (k < length (map (instance_of models) nodes)) × (instance_of models d ≡ get_or (map (instance_of models) nodes) k (instance_of models d))
at_all models nodes k d less is =
    let there = node_here models nodes k d less is in
    let i = instance_of models d in
    (slice_get_within (map (instance_of models) nodes) k i there, sym (get_or_from_slice_get (map (instance_of models) nodes) k i i there))

seen_as : (old new : List (List ℕ)) (nodes : List Node) (is : List Instance) → old ≡ new → map (instance_of new) nodes ≡ is → map (instance_of old) nodes ≡ is
seen_as old new nodes is same seen = ap (λ (ms : List (List ℕ)). map (instance_of ms) nodes) same ∙ seen

pub loop-node-init : goal.loop-node-init
loop-node-init c =
    let n = c.args.netlist.now in
    let models = c.models-models.result.now in
    let nodes = c.nodes-nodes.result.now in
    instances_start n c.args.nets.now models nodes c.args.out.now c.classes.result.now c.ports.result.now c.classes.ensures.classes c.ports.ensures
    (seen_as models n.models nodes n.instances c.models-models.ensures c.nodes-nodes.ensures.seen) c.classes.ensures.sound c.requires.inside

pub split_at-requires : goal.split_at-requires
split_at-requires c =
    let n = c.args.netlist.now in
    let models = c.models-models.result.now in
    let nodes = c.nodes-nodes.result.now in
    let k = c.loop-node.node-index in
    let d = c.node-item.result in
    let at = at_all models nodes k d c.loop-node-test.true c.node-item.is in
    let own = own_many c.args.out.now c.args.nets.now (map (instance_of models) nodes) (drop (length n.ports) n.classes) k c.loop-node.rest.now c.loop-node.out (instance_of models d) at.0 at.1 c.loop-node.invariant in
    subst (λ (ps : List Name). length ps ≤ length c.loop-node.rest.now) (sym c.as_slice-pins.ensures) own

pub mappings-requires-clause-some : goal.mappings-requires-clause-some
mappings-requires-clause-some c =
    let n = c.args.netlist.now in
    let models = c.models-models.result.now in
    let nodes = c.nodes-nodes.result.now in
    let seen = seen_as models n.models nodes n.instances c.models-models.ensures c.nodes-nodes.ensures.seen in
    let some = of_node (λ i. 0 < length i.pins) models nodes c.loop-node.node-index c.node-item.result c.loop-node-test.true c.node-item.is
    (subst (All (λ (i : Instance). 0 < length i.pins)) (sym seen) c.requires.some) in
    subst (λ (ps : List Name). 0 < length ps) (sym c.as_slice-pins.ensures) some

pub loop-node-preserved : goal.loop-node-preserved
loop-node-preserved c =
    let n = c.args.netlist.now in
    let nets = c.args.nets.now in
    let models = c.models-models.result.now in
    let nodes = c.nodes-nodes.result.now in
    let k = c.loop-node.node-index in
    let d = c.node-item.result in
    let i = instance_of models d in
    let out = c.loop-node.out in
    let rest = c.loop-node.rest.now in
    let own = c.split_at.result.0.now in
    let others = c.split_at.result.1.now in
    let pins = c.as_slice-pins.result.now in
    let less = c.loop-node-test.true in
    let at = at_all models nodes k d less c.node-item.is in
    let seen = seen_as models n.models nodes n.instances c.models-models.ensures c.nodes-nodes.ensures.seen in
    let some = of_node (λ i. 0 < length i.pins) models nodes k d less c.node-item.is (subst (All (λ (i : Instance). 0 < length i.pins)) (sym seen) c.requires.some) in
    let inside : d.model < length models =
    subst (λ (x : Node). x.model < length models) (sym c.node-item.is) (subst (λ (ms : List (List ℕ)). (get_or nodes k d).model < length ms) (sym c.models-models.ensures) (c.nodes-nodes.ensures.known k d less)) in
    let model = text_here models d.model c.index-models-node.result inside c.index-models-node.is in
    let many : length pins ≡ length i.pins = ap (λ (ps : List Name). length ps) c.as_slice-pins.ensures in
    let front : own ≡ take (length i.pins) rest = c.split_at.ensures.front ∙ ap (λ m. take m rest) many in
    let back : others ≡ drop (length i.pins) rest = c.split_at.ensures.back ∙ ap (λ m. drop m rest) many in
    let labelled : c.label.new.out ≡ out ++ label_text i.name i.model = c.in_ok-label.ensures ∙ ap (λ (m : List ℕ). out ++ label_text d.name m) model in
    let joined : c.mappings.new.out ≡ (out ++ label_text i.name i.model) ++ maps_text (mapped nets i.pins own) =
    c.in_ok-mappings.ensures ∙ ap (λ (x : List ℕ). x ++ maps_text (mapped nets pins own)) labelled
    ∙ ap (λ (ps : List Name). (out ++ label_text i.name i.model) ++ maps_text (mapped nets ps own)) c.as_slice-pins.ensures in
    instances_next c.args.out.now nets (map (instance_of models) nodes) (drop (length n.ports) n.classes) k rest own others out c.append.new.self i at.0 at.1 some front back
    (c.in_ok-append.ensures.ok ∙ ap (λ (x : List ℕ). x ++ text_of instance_end) joined) c.loop-node.invariant
