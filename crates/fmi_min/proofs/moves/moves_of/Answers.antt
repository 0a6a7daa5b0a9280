use Rattle.std.proofs.Common.{◌≡◌, ◌∷◌, [], ◌<◌, ℕ, List, length, length-append, sym, ap, ◌∙◌, subst, arith}
use Rattle.std.proofs.lemmas.List.{get_or_default}
use Rattle.fsm_walk.specs.declared.step.Step.{Step}
use Rattle.fmi_refine.specs.declared.round.Move.{Move}
use Rattle.fmi_refine.specs.Rows.{move_in}
use Rattle.fmi_min.specs.Moves.{step_in, IsMoveOf, AreMovesOf}
use Rattle.fmi_min.proofs.Meeting.{begins_both, move_still}
use Rattle.fmi_min.proofs.Listing.{pushed}
use Rattle.fmi_min.proofs.moves.moves_of.Goals as goal

pub loop-step-preserved : goal.loop-step-preserved
loop-step-preserved c =
    let new = c.move_of.new.met in
    let old = c.loop-step.met in
    let steps = c.args.steps.now in
    let i = c.loop-step.step-index in
    let moves = c.loop-step.moves.items in
    let inv = c.loop-step.invariant in
    let m = c.in_ok-move_of.field-0 in
    let begins = c.in_ok-move_of.ensures.grown in
    let items = c.in_ok-push.ensures.items in
    let count = inv.each in
    let size = ap (λ (ms : List Move). length ms) items ∙ length-append moves (m ∷ []) in
    let at : c.step-item.result ≡ step_in steps i =
    c.step-item.is ∙ get_or_default steps i c.step-item.result (record { outs = []; next = 0 }) c.loop-step-test.true in
    let last : IsMoveOf new (step_in steps (length moves)) m =
    subst (λ (n : ℕ). IsMoveOf new (step_in steps n) m) (sym count) (subst (λ (s : Step). IsMoveOf new s m) at c.in_ok-move_of.ensures.made) in
    record {
      grown = begins_both c.args.met.now old new inv.grown begins;
      each = omega arith;
      made = subst (λ (ms : List Move). (v : ℕ) → v < length ms → IsMoveOf new (step_in steps v) (move_in ms v)) (sym items)
          (pushed (λ (v : ℕ) (x : Move). IsMoveOf new (step_in steps v) x) moves m (record { outs = 0; next = 0 })
          (λ v l. move_still old new (step_in steps v) (move_in moves v) begins (inv.made v l)) last);
    }

pub returns-clause-made : goal.returns-clause-made
returns-clause-made c =
    let inv = c.loop-step.invariant in
    let count = inv.each in
    let past = c.loop-step-test.false in
    let low = c.loop-step.auto.step-index-end in
    subst (λ (row : List Move). AreMovesOf c.loop-step.met c.args.steps.now row) (sym c.new.ensures) (record { each = omega arith; made = inv.made })
