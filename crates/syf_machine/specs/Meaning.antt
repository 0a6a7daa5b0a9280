-- What the machine of a state machine does.
use Rattle.std.specs.Prelude.{◌≡◌, ℕ, ◌<◌, Bool, List, ◌∷◌, map, length, Some}
use Rattle.machine_core.specs.Machine.{Machine}
use Rattle.machine_core.specs.Cycles.{Settles, outs, next, RunOf, AreVectors}
use Rattle.fsm_machine.specs.Fsm.{Fsm, fsm_inputs, fsm_outputs, walked_next, walked_output, Resets, FsmRun}
use Rattle.fsm_machine.specs.Codes.{Codes, code_of}

-- With the code of a state in the registers, the outputs are those that the walk through the statements knows, and the next contents
-- are the code of the state to which it leads. Whatever the registers hold, a vector that resets leads to the code of the state to
-- which it resets. So from the code of a state the machine runs as the state machine runs from there; and whatever the registers
-- hold, behind a vector that resets it runs as the state machine runs from where that leads. And from each state the state machine
-- runs under all vectors.
pub record DoesAs (f : Fsm) (c : Codes) (m : Machine) : Type 0 where
  pub outputs : (s : ℕ) (i w y : List Bool) → s < length f.states → length i ≡ length (fsm_inputs f) → Settles m (code_of c s) i w
      → map (walked_output f i (Some s)) (fsm_outputs f) ≡ map (λ b. Some b) y → outs m w ≡ y
  pub states : (s t : ℕ) (i w : List Bool) → s < length f.states → length i ≡ length (fsm_inputs f) → Settles m (code_of c s) i w
      → walked_next f i (Some s) ≡ Some t → next m w ≡ code_of c t
  pub resets : (contents i w : List Bool) (r : ℕ) → length contents ≡ c.width → length i ≡ length (fsm_inputs f)
      → Settles m contents i w → Resets f i r → next m w ≡ code_of c r
  pub runs : (s : ℕ) (v y : List (List Bool)) → s < length f.states → AreVectors m v → FsmRun f s v y → RunOf m (code_of c s) v y
  pub each : (s : ℕ) (v : List (List Bool)) → s < length f.states → (y : List (List Bool)) × FsmRun f s v y
  pub reset_runs : (contents i : List Bool) (r : ℕ) (v y : List (List Bool)) → length contents ≡ c.width → AreVectors m (i ∷ v)
      → Resets f i r → FsmRun f r v y → (first : List Bool) × RunOf m contents (i ∷ v) (first ∷ y)
