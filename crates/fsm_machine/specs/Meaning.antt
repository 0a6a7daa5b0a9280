-- What the machine of a state machine does.
use Rattle.std.specs.Prelude.{◌≡◌, ℕ, ◌+◌, ◌<◌, Bool, List, ◌∷◌, map, length, Some}
use Rattle.vlsi_base.specs.declared.name.Name.{Name}
use Rattle.machine_core.specs.Cycles.{Settles, outs, next, RunOf, AreVectors}
use Rattle.machine_core.specs.Order.{AllDifferent, IsOrdered}
use Rattle.fsm_machine.specs.Fsm.{Fsm, fsm_inputs, fsm_outputs, walked_next, walked_output, Resets, FsmRun}
use Rattle.fsm_machine.specs.Codes.{Codes, code_of, AreCodes}
use Rattle.fsm_machine.specs.Signals.{signals}
use Rattle.fsm_machine.specs.Sound.{IsSound}
use Rattle.fsm_machine.specs.MachineOf.{all_states, machine_of}

-- a state machine whose branches list known states once, codes of its states, and names for what is inside
pub record IsEncoded (f : Fsm) (c : Codes) (st : List ℕ) (inner : List Name) : Type 0 where
  pub sound : IsSound (all_states f) f.body
  pub codes : AreCodes (length f.states) c
  pub names : AllDifferent (machine_of f c st inner).vars
  pub count : length inner ≡ length f.states + signals f.body

-- With the code of s in the registers: the outputs are those that the walk with s knows, and the next contents are the code
-- of the state to which it leads.
abbrev pub StepsWithState : Type 0
StepsWithState =
    (f : Fsm) (c : Codes) (st : List ℕ) (inner : List Name) → IsEncoded f c st inner
    → (s : ℕ) (i w : List Bool) → s < length f.states → length i ≡ length (fsm_inputs f)
    → Settles (machine_of f c st inner) (code_of c s) i w
    → ((y : List Bool) → map (walked_output f i (Some s)) (fsm_outputs f) ≡ map (λ b. Some b) y
    → outs (machine_of f c st inner) w ≡ y)
    × ((t : ℕ) → walked_next f i (Some s) ≡ Some t → next (machine_of f c st inner) w ≡ code_of c t)

-- from any contents whatever, a vector that resets to r leads to the code of r
abbrev pub ResetsFromAll : Type 0
ResetsFromAll =
    (f : Fsm) (c : Codes) (st : List ℕ) (inner : List Name) → IsEncoded f c st inner
    → (contents i w : List Bool) (r : ℕ) → length i ≡ length (fsm_inputs f) → length contents ≡ c.width
    → Settles (machine_of f c st inner) contents i w → Resets f i r → next (machine_of f c st inner) w ≡ code_of c r

-- the equations stand in an order in which each reads only what is before it
abbrev pub MachineIsOrdered : Type 0
MachineIsOrdered =
    (f : Fsm) (c : Codes) (st : List ℕ) (inner : List Name) → IsEncoded f c st inner → IsOrdered (machine_of f c st inner)

-- from the code of s the machine runs as the state machine runs from s
abbrev pub RunsFromState : Type 0
RunsFromState =
    (f : Fsm) (c : Codes) (st : List ℕ) (inner : List Name) → IsEncoded f c st inner
    → (s : ℕ) (v y : List (List Bool)) → s < length f.states → AreVectors (machine_of f c st inner) v
    → FsmRun f s v y → RunOf (machine_of f c st inner) (code_of c s) v y

-- from any contents whatever, after a vector that resets to r it runs as the state machine runs from r
abbrev pub RunsAfterReset : Type 0
RunsAfterReset =
    (f : Fsm) (c : Codes) (st : List ℕ) (inner : List Name) → IsEncoded f c st inner
    → (contents i : List Bool) (r : ℕ) (v y : List (List Bool))
    → length contents ≡ c.width → AreVectors (machine_of f c st inner) (i ∷ v) → Resets f i r → FsmRun f r v y
    → (first : List Bool) × RunOf (machine_of f c st inner) contents (i ∷ v) (first ∷ y)
