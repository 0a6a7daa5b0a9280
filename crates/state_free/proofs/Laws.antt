-- Both walk alike, and get the same codes.
use Rattle.std.proofs.Common.{ℕ, suc, Bool, List, None, ap, ◌∙◌, length}
use Rattle.fsm_machine.specs.Fsm.{Fsm, seen, walked_next}
use Rattle.fsm_machine.specs.Walk.{given_next}
use Rattle.fsm_machine.specs.MachineOf.{up}
use Rattle.fsm_machine.specs.Encoding.{cost, exchanges, lowered, numbered}
use Rattle.syf_encode.specs.declared.style.Style.TheVariants as style
use Rattle.syf_encode.specs.Codes.{codes_by}
use Rattle.state_free.specs.Law.{BothWalkAlike, SameCodes}
use Rattle.state_free.proofs.Alike.{high_is, same_walk, same_next, same_leads}

pub both_walk_alike : BothWalkAlike
both_walk_alike low high i st free =
    ap (λ (f : Fsm). walked_next f i st) (high_is low high free) ∙ same_walk given_next same_next (seen low i) st low.body high.body None free.body

-- the search depends on which states lead to which alone
pub same_codes : SameCodes
same_codes style.OneHot low high free = ap (λ (f : Fsm). codes_by style.OneHot f) (high_is low high free)
same_codes (style.Random seed) low high free = ap (λ (f : Fsm). codes_by (style.Random seed) f) (high_is low high free)
same_codes style.Adjacent low high free =
    let n = length low.states in
    let with_edges : (ℕ → ℕ → Bool) → List ℕ = λ edge. lowered (cost edge n) (exchanges n) (suc (cost edge n (up 0 n))) (up 0 n) in
    ap (λ (f : Fsm). codes_by style.Adjacent f) (high_is low high free)
    ∙ (λ j. numbered n (with_edges (λ s t. same_leads s t low.body high.body free.body j)))
