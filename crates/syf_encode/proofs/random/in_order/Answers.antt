use Rattle.std.proofs.Common.{ℕ, [], ◌∷◌, ◌++◌, List, ap, sym, ◌∙◌}
use Rattle.syf_encode.proofs.Upward.{up_more}
use Rattle.syf_encode.proofs.random.in_order.Goals as goal

pub loop-number-preserved : goal.loop-number-preserved
loop-number-preserved c =
    c.in_ok-push.ensures.items ∙ ap (λ (numbers : List ℕ). numbers ++ (c.loop-number.number ∷ [])) c.loop-number.invariant
    ∙ sym (up_more c.loop-number.number)
