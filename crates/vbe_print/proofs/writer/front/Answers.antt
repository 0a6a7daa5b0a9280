use Rattle.std.proofs.Common.{◌++◌, ◌∙◌, ◌≡◌, ℕ, List, ap}
use Rattle.std.proofs.lemmas.Result.{on_ok_weaker}
use Rattle.vlsi_base.specs.declared.name.Port.{Port}
use Rattle.spell_theory.specs.Layout.{text_of}
use Rattle.vhdl_print.specs.Outline.{entity_layout}
use Rattle.vst_print.specs.Groups.{outline}
use Rattle.vbe_print.specs.Written.{with_supply_ports, head_layout}
use Rattle.vbe_print.proofs.Texts.{put_two}
use Rattle.vbe_print.proofs.writer.front.Goals as goal

pub returns : goal.returns
returns c =
    let m = c.args.machine.now in
    let o = c.args.out.now in
    let a = c.entity.new.out in
    let z = c.head.new.out in
    let all : c.deref.result.now ≡ with_supply_ports m.ports = c.deref.ensures.value ∙ c.in_ok-ports.ensures ∙ ap with_supply_ports (c.as_slice.ensures ∙ c.ports.ensures.value) in
    let first : a ≡ o ++ text_of (entity_layout (outline m.name (with_supply_ports m.ports))) =
    c.in_ok-entity.ensures
    ∙ ap (λ (name : List ℕ). o ++ text_of (entity_layout (outline name c.deref.result.now))) c.name.ensures.value
    ∙ ap (λ (ports : List Port). o ++ text_of (entity_layout (outline m.name ports))) all in
    on_ok_weaker c.head.result
    (λ e. put_two (entity_layout (outline m.name (with_supply_ports m.ports))) (head_layout m.name) o a z first (e ∙ ap (λ (name : List ℕ). a ++ text_of (head_layout name)) c.name-2.ensures.value))
    c.head.ensures
