use Rattle.std.proofs.Common.{◌==◌, [], ◌∷◌, ◌++◌, Bool, List, map, ap, sym, ◌∙◌}
use Rattle.fsm_machine.specs.MachineOf.{up}
use Rattle.syf_encode.proofs.Upward.{up_map}
use Rattle.syf_encode.proofs.coding.one_hot.Goals as goal

pub loop-state-preserved : goal.loop-state-preserved
loop-state-preserved c =
    c.in_ok-push.ensures.items ∙ ap (λ (codes : List (List Bool)). codes ++ (c.in_ok-one_bit.field-0 ∷ [])) c.loop-state.invariant
    ∙ ap (λ (code : List Bool). map (λ s. map (λ k. k == s) (up 0 c.args.count)) (up 0 c.loop-state.state) ++ (code ∷ [])) c.in_ok-one_bit.ensures
    ∙ sym (up_map (λ s. map (λ k. k == s) (up 0 c.args.count)) c.loop-state.state)
