use Rattle.std.proofs.Common.{◌∷◌, [], ◌++◌, Some, ap, ◌∙◌}
use Rattle.vlsi_base.specs.declared.name.Name.{Name}
use Rattle.boom_muxes.proofs.Turns.{rising_turn}
use Rattle.boom_muxes.proofs.building.all_names.Goals as goal

pub loop-k-preserved : goal.loop-k-preserved
loop-k-preserved c =
    rising_turn (λ k. record { text = c.args.text.now; bit = Some k }) c.loop-k.k c.args.count c.loop-k.names.items _ _ c.loop-k-test.true
    (c.in_ok-push.ensures.items ∙ ap (λ (x : Name). c.loop-k.names.items ++ x ∷ []) c.in_ok-bit_name.ensures) c.loop-k.invariant
