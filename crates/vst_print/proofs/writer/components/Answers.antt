use Rattle.std.proofs.Common.{◌≡◌, ◌∙◌, ◌<◌, ◌++◌, ℕ, List, map, length, get_or, sym, ap, subst}
use Rattle.std.specs.List.{All}
use Rattle.spell_theory.specs.Layout.{text_of}
use Rattle.net_core.specs.declared.pins.ModelPin.{ModelPin}
use Rattle.net_core.specs.declared.pins.ModelPins.{ModelPins}
use Rattle.net_core.specs.declared.frame.Node.{Node}
use Rattle.net_core.specs.Frame.{instance_of}
use Rattle.net_core.specs.Netlist.{Instance}
use Rattle.net_core.specs.Checks.{pins_named}
use Rattle.net_right.specs.Writable.{port_of}
use Rattle.vst_print.specs.Groups.{outline}
use Rattle.vst_print.specs.Structure.{component_layout, components_layout}
use Rattle.vst_print.specs.Written.{used_models, component_of}
use Rattle.vst_print.proofs.Whole.{used_pins, components_next}
use Rattle.vst_print.proofs.writer.components.Goals as goal

used_are : (models old new texts : List (List ℕ)) (nodes : List Node) (is : List Instance) → models ≡ texts → texts ≡ used_models (map (instance_of old) nodes) → old ≡ new → map (instance_of new) nodes ≡ is
    → models ≡ used_models is
used_are models old new texts nodes is a b same seen = a ∙ b ∙ ap (λ (ms : List (List ℕ)). used_models (map (instance_of ms) nodes)) same ∙ ap used_models seen

some_pins : (table listed : List ModelPins) (models used : List (List ℕ)) (k : ℕ) (t : List ℕ) (pins : List ModelPin) → All (λ u. 0 < length (pins_named table u)) used → models ≡ used → listed ≡ table → k < length models → t ≡ get_or models k t
    → pins ≡ pins_named listed t → 0 < length pins
some_pins table listed models used k t pins all are same less is pins_are =
    let here : 0 < length (pins_named table (get_or models k t)) = subst (All (λ (u : List ℕ). 0 < length (pins_named table u))) (sym are) all k t less in
    let at : 0 < length (pins_named table t) = subst (λ (u : List ℕ). 0 < length (pins_named table u)) (sym is) here in
    subst (λ (ps : List ModelPin). 0 < length ps) (sym (pins_are ∙ ap (λ (ms : List ModelPins). pins_named ms t) same)) at

pub component-requires : goal.component-requires
component-requires c =
    let n = c.args.netlist.now in
    let table = c.args.table.now in
    let models = c.texts-models.result.now in
    some_pins table c.as_slice-listed.result.now models (used_models n.instances) c.loop-model.model-index c.model-item.result c.pins_of-pins.result.now
    (used_pins n table c.requires.fits c.requires.pins)
    (used_are models c.models.result.now n.models c.in_ok-used.used c.nodes.result.now n.instances c.texts-models.ensures.texts c.in_ok-used.ensures c.models.ensures c.nodes.ensures.seen)
    c.as_slice-listed.ensures c.loop-model-test.true c.model-item.is c.pins_of-pins.ensures

pub loop-model-preserved : goal.loop-model-preserved
loop-model-preserved c =
    let listed = c.as_slice-listed.result.now in
    let models = c.texts-models.result.now in
    let t = c.model-item.result in
    let out = c.loop-model.out in
    components_next (c.args.out.now ++ text_of (components_layout (map (component_of listed) models))) listed models c.loop-model.model-index t out c.component.new.out c.loop-model-test.true c.model-item.is
    (c.in_ok-component.ensures ∙ ap (λ (ps : List ModelPin). out ++ text_of (component_layout (outline t (map port_of ps)))) c.pins_of-pins.ensures) c.loop-model.invariant
