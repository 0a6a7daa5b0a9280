use Rattle.std.proofs.Common.{ℕ, ◌∷◌, [], ◌++◌, ◌+◌, ap, ◌∙◌, if◌then◌else◌}
use Rattle.std.specs.Prelude.{nat_lt}
use Rattle.boom_muxes.proofs.Turns.{rising_turn}
use Rattle.boom_muxes.proofs.building.numbers.Goals as goal

pub loop-k-preserved : goal.loop-k-preserved
loop-k-preserved c =
    rising_turn (λ k. if nat_lt k c.args.held then k else k + c.args.count) c.loop-k.k c.args.total c.loop-k.numbers.items _ _ c.loop-k-test.true
    (c.in_ok-push.ensures.items ∙ ap (λ (x : ℕ). c.loop-k.numbers.items ++ x ∷ []) c.number_behind.ensures) c.loop-k.invariant
