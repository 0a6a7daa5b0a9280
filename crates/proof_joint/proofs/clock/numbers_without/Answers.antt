use Rattle.std.proofs.Common.{ℕ, [], ◌∷◌, ◌++◌, ap, ◌∙◌}
use Rattle.proof_joint.proofs.Clocks.{number_turn}
use Rattle.proof_joint.proofs.clock.numbers_without.Goals as goal

pub loop-k-preserved : goal.loop-k-preserved
loop-k-preserved c =
    number_turn c.args.place c.loop-k.k c.args.count c.loop-k.numbers.items _ _ c.loop-k-test.true
    (c.in_ok-push.ensures.items ∙ ap (λ (x : ℕ). c.loop-k.numbers.items ++ x ∷ []) c.number_without.ensures) c.loop-k.invariant
