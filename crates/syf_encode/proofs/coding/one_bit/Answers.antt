use Rattle.std.proofs.Common.{◌==◌, [], ◌∷◌, ◌++◌, Bool, List, ap, sym, ◌∙◌}
use Rattle.syf_encode.proofs.Upward.{up_map}
use Rattle.syf_encode.proofs.coding.one_bit.Goals as goal

pub loop-k-preserved : goal.loop-k-preserved
loop-k-preserved c =
    c.in_ok-push.ensures.items ∙ ap (λ (bits : List Bool). bits ++ ((c.loop-k.k == c.args.place) ∷ [])) c.loop-k.invariant
    ∙ sym (up_map (λ k. k == c.args.place) c.loop-k.k)
