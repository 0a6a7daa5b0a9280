use Rattle.std.proofs.Common.{◌≡◌, ◌<◌, ℕ, true, false, List, length, get_or, refl, sym, subst, ◌∙◌, arith}
use Rattle.std.specs.List.{All}
use Rattle.std.proofs.lemmas.List.{take_all}
use Rattle.std.proofs.lemmas.List.Elements.{All-more, All-map}
use Rattle.net_core.specs.declared.frame.Node.{Node}
use Rattle.net_core.specs.Frame.{instance_of}
use Rattle.net_right.specs.Writable.{IsIdentifier, CanBeAnInstance}
use Rattle.vst_print.proofs.Tested.{text_here, of_node}
use Rattle.vst_print.proofs.test.can_be_instances.Goals.{then-not-is_identifier-via-then-not-is_identifier, then-not-is_identifier-via-else-not-is_identifier+then-not-is_identifier-2}
use Rattle.vst_print.proofs.test.can_be_instances.Goals as goal

model_inside : (models : List (List ℕ)) (nodes : List Node) (k : ℕ) (d : Node) → k < length nodes → d ≡ get_or nodes k d → All (λ i. i.model < length models) nodes → d.model < length models
model_inside models nodes k d less is all = subst (λ (x : Node). x.model < length models) (sym is) (all k d less)

pub returns-then-not-is_identifier : goal.returns-then-not-is_identifier
returns-then-not-is_identifier c =
    let models = c.args.models.now in
    let nodes = c.args.nodes.now in
    let d = c.node-item.result in
    let less = c.loop-node-test.true in (
      λ no. absurd cc,
      λ all.
          let can = of_node CanBeAnInstance models nodes c.loop-node.node-index d less c.node-item.is all in
          elim c.then-not-is_identifier.branch [
            | then-not-is_identifier-via-then-not-is_identifier w ↦ (let e = c.is_identifier.ensures.1 can.0 in let no : true ≡ false = sym e ∙ w.if-not-is_identifier.true in absurd cc)
            | then-not-is_identifier-via-else-not-is_identifier+then-not-is_identifier-2 w ↦ (
                let same = text_here models d.model w.index-models-node.result (model_inside models nodes c.loop-node.node-index d less c.node-item.is c.requires) w.index-models-node.is in
                let e = w.is_identifier-else-not-is_identifier.ensures.1 (subst IsIdentifier (sym same) can.1) in
                let no : true ≡ false = sym e ∙ w.if-not-is_identifier-2.true in
                absurd cc)
          ],
    )

pub loop-node-preserved : goal.loop-node-preserved
loop-node-preserved c =
    let models = c.args.models.now in
    let nodes = c.args.nodes.now in
    let d = c.node-item.result in
    let less = c.loop-node-test.true in
    let same = text_here models d.model c.index-models-node.result (model_inside models nodes c.loop-node.node-index d less c.node-item.is c.requires) c.index-models-node.is in
    let name = c.is_identifier.ensures.0 c.if-not-is_identifier.false in
    let model = subst IsIdentifier same (c.is_identifier-else-not-is_identifier.ensures.0 c.if-not-is_identifier-2.false) in
    All-more (λ (x : Node). CanBeAnInstance (instance_of models x)) nodes c.loop-node.node-index d less c.loop-node.invariant
    (subst (λ (x : Node). CanBeAnInstance (instance_of models x)) c.node-item.is (name, model))

pub returns : goal.returns
returns c = (
  λ yes. All-map CanBeAnInstance (instance_of c.args.models.now) c.args.nodes.now
      (subst (All (λ (x : Node). CanBeAnInstance (instance_of c.args.models.now x))) (take_all c.loop-node.node-index c.args.nodes.now (omega (arith, c.loop-node-test.false))) c.loop-node.invariant),
  λ all. refl,
)
