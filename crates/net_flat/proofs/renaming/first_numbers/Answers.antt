use Rattle.std.proofs.Common.{◌≡◌, ◌∷◌, [], ◌++◌, ◌∙◌, ◌+◌, ℕ, List, ap, sym, arith}
use Rattle.vlsi_base.specs.Range.{rising}
use Rattle.vlsi_model.proofs.Naming.{rising_more}
use Rattle.net_flat.proofs.renaming.first_numbers.Goals as goal

pub loop-k-preserved : goal.loop-k-preserved
loop-k-preserved c =
    let same : c.loop-k.k ≡ 0 + c.loop-k.k = omega arith in
    c.in_ok-push.ensures.items ∙ ap (λ (xs : List ℕ). xs ++ c.loop-k.k ∷ []) c.loop-k.invariant ∙ ap (λ (k : ℕ). rising 0 c.loop-k.k ++ k ∷ []) same ∙ sym (rising_more 0 c.loop-k.k)
