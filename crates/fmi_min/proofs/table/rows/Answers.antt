use Rattle.std.proofs.Common.{◌≡◌, ◌∷◌, [], ℕ, Bool, List, length, length-append, map, not, sym, ap, ◌∙◌, subst, arith}
use Rattle.std.proofs.lemmas.List.Elements.{All-same}
use Rattle.vlsi_base.specs.declared.name.Name.{Name}
use Rattle.machine_core.specs.Checked.{AreInOrder}
use Rattle.machine_core.specs.Machine.{is_input}
use Rattle.fsm_machine.specs.Fsm.{fsm_outputs}
use Rattle.fsm_walk.specs.declared.step.Step.{Step}
use Rattle.fsm_walk.specs.Step.{step_of}
use Rattle.fmi_refine.specs.declared.round.Move.{Move}
use Rattle.fmi_refine.specs.Rows.{row_at}
use Rattle.fmi_min.specs.Moves.{AreMovesOf}
use Rattle.fmi_min.specs.Table.{words_read}
use Rattle.fmi_min.proofs.Meeting.{steps_under, AreMade, is_table, moves_still}
use Rattle.fmi_min.proofs.Telling.{words_over}
use Rattle.syf_machine.proofs.Targeted.{outputs_in_order}
use Rattle.fmi_min.proofs.Listing.{pushed}
use Rattle.fmi_min.proofs.table.rows.Goals as goal

pub steps_of-requires-clause-order : goal.steps_of-requires-clause-order
steps_of-requires-clause-order c =
    let f = c.args.machine.now in
    subst (λ (names : List Name). AreInOrder names) (sym (c.as_slice-in-loop-state.ensures ∙ c.in_ok-outputs.ensures))
    (outputs_in_order (λ p. not (is_input p.dir)) f.ports c.states.ensures.checked.ports)

pub steps_of-requires-clause-over : goal.steps_of-requires-clause-over
steps_of-requires-clause-over c =
    let f = c.args.machine.now in
    All-same (λ (w : List Bool). length w ≡ length f.ports) c.args.words.now (words_read f) c.requires (words_over f)

pub loop-state-preserved : goal.loop-state-preserved
loop-state-preserved c =
    let f = c.args.machine.now in
    let new = c.moves_of.new.met in
    let old = c.loop-state.met in
    let words = c.args.words.now in
    let s = c.loop-state.state in
    let rows = c.loop-state.rows.items in
    let inv = c.loop-state.invariant in
    let row = c.in_ok-moves_of.field-0 in
    let items = c.in_ok-push.ensures.items in
    let count = inv.each in
    let size = ap (λ (rs : List (List Move)). length rs) items ∙ length-append rows (row ∷ []) in
    let steps : c.deref.result.now ≡ steps_under f s =
    c.deref.ensures.value ∙ c.in_ok-steps.ensures
    ∙ ap (λ (outs : List Name). map (λ w. step_of f.body outs w s) words) (c.as_slice-in-loop-state.ensures ∙ c.in_ok-outputs.ensures)
    ∙ ap (λ (ws : List (List Bool)). map (λ w. step_of f.body (fsm_outputs f) w s) ws) c.requires in
    let last : AreMovesOf new (steps_under f (length rows)) row =
    subst (λ (n : ℕ). AreMovesOf new (steps_under f n) row) (sym count)
    (subst (λ (ss : List Step). AreMovesOf new ss row) steps c.in_ok-moves_of.ensures.made) in
    record {
      each = omega arith;
      made = subst (λ (rs : List (List Move)). AreMade f new rs) (sym items)
          (pushed (λ (t : ℕ) (r : List Move). AreMovesOf new (steps_under f t) r) rows row []
          (λ t l. moves_still old new (steps_under f t) (row_at rows t) c.in_ok-moves_of.ensures.grown (inv.made t l)) last);
    }

pub returns : goal.returns
returns c =
    let f = c.args.machine.now in
    let count = c.loop-state.invariant.each in
    let past = c.loop-state-test.false in
    let low = c.loop-state.auto.state-end in
    let size = ap (λ (names : List Name). length names) (c.as_slice.ensures ∙ c.states.ensures.value) in
    is_table f c.loop-state.met c.loop-state.rows.items c.texts.ensures.once (omega arith) c.loop-state.invariant.made
