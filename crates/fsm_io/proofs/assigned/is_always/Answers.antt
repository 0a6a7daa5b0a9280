use Rattle.std.proofs.Common.{◌≡◌, true, ℕ, sym, ◌∙◌, arith}
use Rattle.std.proofs.lemmas.Grind.{common_steps}
use Rattle.fsm_machine.specs.Assigned.{sure}
use Rattle.fsm_code.specs.View.{body_view}
use Rattle.fsm_io.specs.Pieces.{sets_of}
use Rattle.fsm_io.proofs.Surely.{always_step}
use Rattle.fsm_io.proofs.assigned.is_always.Goals as goal

pub loop-state-preserved : goal.loop-state-preserved
loop-state-preserved c =
    let test = λ (s : ℕ). sure (sets_of c.args.sought) s (body_view c.args.body.now) in
    let passes : sure (sets_of c.args.sought) c.loop-state.state (body_view c.args.body.now) ≡ true = grind (arith, common_steps) in
    sym (always_step test c.loop-state.state c.args.count c.loop-state-test.true passes) ∙ c.loop-state.invariant
