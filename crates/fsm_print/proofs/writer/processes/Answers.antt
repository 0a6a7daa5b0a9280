use Rattle.std.proofs.Common.{◌≡◌, ◌∙◌, ◌++◌, ap, sym, subst}
use Rattle.std.proofs.lemmas.Result.{on_ok_weaker}
use Rattle.vlsi_base.specs.declared.name.Name.{Name}
use Rattle.fsm_machine.specs.Statements.{Statements}
use Rattle.spell_theory.specs.Layout.{text_of}
use Rattle.vbe_print.proofs.Texts.{put_two}
use Rattle.fsm_print.specs.Pieces.{IsKnownBody}
use Rattle.fsm_print.specs.Written.{step_layout, clock_layout, last_layout}
use Rattle.fsm_print.proofs.Known.{known}
use Rattle.fsm_print.proofs.writer.processes.Goals as goal

pub step-requires : goal.step-requires
step-requires c =
    let w = c.args.writer.now.words.now in
    subst (λ (b : Statements). IsKnownBody w b) (sym c.body.ensures.value) (known c.args.machine.now w c.body.ensures.checked c.requires)

pub returns : goal.returns
returns c =
    let w = c.args.writer.now.words.now in
    let m = c.args.machine.now in
    let o = c.args.out.now in
    let a = c.step.new.out in
    let b = c.clock-2.new.out in
    let z = c.append.new.self in
    let first : a ≡ o ++ text_of (step_layout w m.body) = c.in_ok-step.ensures ∙ ap (λ (x : Statements). o ++ text_of (step_layout w x)) c.body.ensures.value in
    let second : b ≡ a ++ text_of (clock_layout w m.clock.text) = c.in_ok-clock.ensures ∙ ap (λ (n : Name). a ++ text_of (clock_layout w n.text)) c.clock.ensures.value in
    on_ok_weaker c.append.result
    (λ e. put_two (step_layout w m.body) (clock_layout w m.clock.text ++ last_layout) o a z first (put_two (clock_layout w m.clock.text) last_layout a b z second e))
    c.append.ensures.ok
