use Rattle.std.proofs.Common.{◌≡◌, ◌∙◌, ◌++◌, ℕ, List, ap}
use Rattle.std.proofs.lemmas.Result.{on_ok_weaker}
use Rattle.vlsi_base.specs.declared.name.Port.{Port}
use Rattle.spell_theory.specs.Layout.{text_of}
use Rattle.vhdl_print.specs.Outline.{entity_layout}
use Rattle.vst_print.specs.Groups.{outline}
use Rattle.vbe_print.proofs.Texts.{put_two}
use Rattle.fsm_print.specs.Written.{declarations_layout, processes_layout, layout}
use Rattle.fsm_print.proofs.writer.source.Goals as goal

pub returns : goal.returns
unfolding layout
returns c =
    let w = c.args.writer.now.words.now in
    let m = c.args.machine.now in
    let o = c.args.out.now in
    let a = c.entity.new.out in
    let b = c.declarations.new.out in
    let z = c.processes.new.out in
    let first : a ≡ o ++ text_of (entity_layout (outline m.name m.ports)) =
    c.in_ok-entity.ensures
    ∙ ap (λ (name : List ℕ). o ++ text_of (entity_layout (outline name c.as_slice-ports.result.now))) c.name.ensures.value
    ∙ ap (λ (ports : List Port). o ++ text_of (entity_layout (outline m.name ports))) (c.as_slice-ports.ensures ∙ c.ports.ensures.value) in
    let second : b ≡ a ++ text_of (declarations_layout w m.name) = c.in_ok-declarations.ensures ∙ ap (λ (name : List ℕ). a ++ text_of (declarations_layout w name)) c.name-2.ensures.value in
    on_ok_weaker c.processes.result
    (λ e. put_two (entity_layout (outline m.name m.ports)) (declarations_layout w m.name ++ processes_layout w m) o a z first (put_two (declarations_layout w m.name) (processes_layout w m) a b z second e))
    c.processes.ensures
