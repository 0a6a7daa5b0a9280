use Rattle.std.proofs.Common.{◌≡◌, ◌∙◌, ◌++◌, ℕ, List, map, ap}
use Rattle.std.proofs.lemmas.Result.{on_ok_weaker}
use Rattle.vlsi_base.specs.declared.name.Port.{Port}
use Rattle.spell_theory.specs.Layout.{text_of}
use Rattle.vhdl_print.specs.Outline.{entity_layout}
use Rattle.vst_print.specs.Groups.{outline}
use Rattle.vst_print.specs.Structure.{head_layout, components_layout}
use Rattle.vst_print.specs.Written.{used_models, component_of}
use Rattle.vst_print.proofs.Whole.{three_parts}
use Rattle.vst_print.proofs.writer.front.Goals as goal

pub returns : goal.returns
returns c =
    let n = c.args.netlist.now in
    let out = c.args.out.now in
    let a = c.entity.new.out in
    let b = c.head.new.out in
    let first : a ≡ out ++ text_of (entity_layout (outline n.name n.ports)) =
    c.in_ok-entity.ensures
    ∙ ap (λ (name : List ℕ). out ++ text_of (entity_layout (outline name c.ports.result.now))) c.name.ensures
    ∙ ap (λ (ports : List Port). out ++ text_of (entity_layout (outline n.name ports))) c.ports.ensures in
    let second : b ≡ a ++ text_of (head_layout n.name) = c.in_ok-head.ensures ∙ ap (λ (name : List ℕ). a ++ text_of (head_layout name)) c.name-2.ensures in
    on_ok_weaker c.components.result
    (three_parts out a b c.components.new.out (entity_layout (outline n.name n.ports)) (head_layout n.name) (components_layout (map (component_of c.args.table.now) (used_models n.instances))) first second)
    c.components.ensures
