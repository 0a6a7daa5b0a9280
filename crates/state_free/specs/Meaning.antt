-- What the two machines of a state machine whose outputs are left free in part may do.
use Rattle.std.specs.Prelude.{◌≡◌, ℕ, ◌<◌, Bool, List, ◌∷◌, length, Some}
use Rattle.std.specs.List.{AllZip}
use Rattle.machine_core.specs.Machine.{Machine}
use Rattle.machine_core.specs.Cycles.{outs, next, AreVectors}
use Rattle.machine_free.specs.Cycles.{FreeSettles, FreeRunOf}
use Rattle.fsm_machine.specs.Fsm.{Fsm, fsm_inputs, fsm_outputs, walked_next, Resets}
use Rattle.fsm_machine.specs.Codes.{Codes, code_of}
use Rattle.state_free.specs.Runs.{MayShow, FreeFsmRun}

-- With the code of a state in the registers, each output bit is one that the walks through the statements leave, and the next contents
-- are the code of the state to which they lead. Whatever the registers hold, a vector that resets leads to the code of the state to
-- which it resets. So what the machines may do from the code of a state, the state machine may do from there; and whatever the
-- registers hold, behind a vector that resets it may do so from where that leads. And from each state there is such a run under all
-- vectors.
pub record MayDoAs (low high : Fsm) (c : Codes) (m k : Machine) : Type 0 where
  pub outputs : (s : ℕ) (i w : List Bool) → s < length low.states → length i ≡ length (fsm_inputs low) → FreeSettles m k (code_of c s) i w
      → AllZip (λ name b. MayShow low high i s name b) (fsm_outputs low) (outs m w)
  pub states : (s t : ℕ) (i w : List Bool) → s < length low.states → length i ≡ length (fsm_inputs low)
      → FreeSettles m k (code_of c s) i w → walked_next low i (Some s) ≡ Some t → next m w ≡ code_of c t
  pub resets : (contents i w : List Bool) (r : ℕ) → length contents ≡ c.width → length i ≡ length (fsm_inputs low)
      → FreeSettles m k contents i w → Resets low i r → next m w ≡ code_of c r
  pub runs : (s : ℕ) (v y : List (List Bool)) → s < length low.states → AreVectors m v → FreeRunOf m k (code_of c s) v y
      → FreeFsmRun low high s v y
  pub each : (s : ℕ) (v : List (List Bool)) → s < length low.states → (y : List (List Bool)) × FreeFsmRun low high s v y
  pub reset_runs : (contents i : List Bool) (r : ℕ) (v y : List (List Bool)) → length contents ≡ c.width → AreVectors m (i ∷ v)
      → Resets low i r → FreeRunOf m k contents (i ∷ v) y
      → (first : List Bool) × (rest : List (List Bool)) × (y ≡ first ∷ rest) × FreeFsmRun low high r v rest
