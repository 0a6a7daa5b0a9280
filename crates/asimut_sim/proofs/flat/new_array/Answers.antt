use Rattle.std.proofs.Common.{◌∙◌, ℕ, false, ap, replicate}
use Rattle.asimut_sim.proofs.CycleLemmas.{new_array_is, flat_is_wide}
use Rattle.asimut_sim.proofs.flat.new_array.Goals as goal

pub returns : goal.returns
returns c =
    new_array_is c.args.flat.now (flat_is_wide c.args.flat.now c.requires) c.in_ok-bits.bits.items (c.in_ok-bits.ensures ∙ ap (λ (n : ℕ). replicate n false) c.in_ok-end.ensures)
