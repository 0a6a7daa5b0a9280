use Rattle.std.proofs.Common.{◌≡◌, ◌∷◌, ◌++◌, [], ℕ, Bool, List, length, map, take, sym, ap, ◌∙◌, subst}
use Rattle.fsm_machine.specs.Statements.{Statements}
use Rattle.fsm_code.specs.Over.{IsBodyOver}
use Rattle.fsm_code.specs.View.{body_view}
use Rattle.fsm_walk.specs.declared.step.Step.{Step}
use Rattle.fsm_walk.specs.Step.{step_of}
use Rattle.fsm_walk.proofs.Over.{checked_over}
use Rattle.fsm_walk.proofs.Marking.{made_more}
use Rattle.fmi_min.proofs.moves.steps_of.Goals as goal

pub step_from-requires-clause-over : goal.step_from-requires-clause-over
step_from-requires-clause-over c =
    let f = c.args.machine.now in
    let over : IsBodyOver (length f.ports) f.body = checked_over f c.body-body.ensures.checked in
    let size : length c.as_slice.result.now ≡ length f.ports =
    ap (λ (w : List Bool). length w) (c.as_slice.ensures ∙ c.word-item.is) ∙ c.requires.over c.loop-word.word-index c.word-item.result c.loop-word-test.true in
    subst (λ (n : ℕ). IsBodyOver n (body_view c.body-body.result.now)) (sym size)
    (subst (λ (b : Statements). IsBodyOver (length f.ports) b) (sym c.body-body.ensures.value) over)

pub loop-word-preserved : goal.loop-word-preserved
loop-word-preserved c =
    let body = c.args.machine.now.body in
    let outputs = c.args.outputs.now in
    let words = c.args.words.now in
    let i = c.loop-word.word-index in
    let g : List Bool → Step = λ w. step_of body outputs w c.args.state in
    c.in_ok-push.ensures.items
    ∙ ap (λ (front : List Step). front ++ c.in_ok-step_from.field-0 ∷ []) c.loop-word.invariant
    ∙ ap (λ (x : Step). map g (take i words) ++ x ∷ [])
    (c.in_ok-step_from.ensures
    ∙ ap (λ (b : Statements). step_of b outputs c.as_slice.result.now c.args.state) c.body-body.ensures.value
    ∙ ap g c.as_slice.ensures)
    ∙ sym (made_more g words i c.word-item.result c.word-item.result c.loop-word-test.true c.word-item.is)
