-- Runs of state machines whose outputs are left free in part.
use Rattle.std.specs.Prelude.{◌≡◌, ◌⊎◌, ℕ, Bool, List, [], ◌∷◌, Some}
use Rattle.std.specs.List.{AllZip}
use Rattle.vlsi_base.specs.declared.name.Name.{Name}
use Rattle.fsm_machine.specs.Fsm.{Fsm, fsm_outputs, walked_next, walked_output}

-- In the state s an output bit may have what the walk through the one knows of it, or through the other; where these are one, it is
-- fixed.
abbrev pub MayShow : Fsm → Fsm → List Bool → ℕ → Name → Bool → Type 0
MayShow low high i s name b = (walked_output low i (Some s) name ≡ Some b) ⊎ (walked_output high i (Some s) name ≡ Some b)

-- from the state s, the vectors v may give the outputs y; the next state is the one walked, in both alike
abbrev pub FreeFsmRun : Fsm → Fsm → ℕ → List (List Bool) → List (List Bool) → Type 0
FreeFsmRun low high s [] y = y ≡ []
FreeFsmRun low high s (i ∷ v) y =
    (outs : List Bool) × AllZip (λ name b. MayShow low high i s name b) (fsm_outputs low) outs
    × ((after : ℕ) × (walked_next low i (Some s) ≡ Some after)
    × ((rest : List (List Bool)) × (y ≡ outs ∷ rest) × FreeFsmRun low high after v rest))
