-- The step that a state machine makes from a state.
use Rattle.std.specs.Prelude.{◌≡◌, ℕ, Bool, false, List, map, None, Some}
use Rattle.vlsi_base.specs.declared.name.Name.{Name}
use Rattle.fsm_machine.specs.Statements.{Statements}
use Rattle.fsm_machine.specs.Walk.{walk, given_next, given_output}
use Rattle.fsm_machine.specs.Fsm.{Fsm, fsm_outputs}
use Rattle.fsm_core.specs.Checked.{IsCheckedFsm}
use Rattle.fsm_walk.specs.declared.step.Step.{Step}
use Rattle.fsm_walk.specs.Trail.{trail, last_given}
use Rattle.fsm_walk.specs.Reads.{read_marks}
use Rattle.fsm_walk.specs.Words.{SameAt}

-- with bits w of the ports, from state s: the outputs, and the next state
abbrev pub step_of : Statements → List Name → List Bool → ℕ → Step
step_of body outputs w s = record {
  outs = map (λ name. last_given (given_output w name) false (trail w s body)) outputs;
  next = last_given given_next 0 (trail w s body);
}

-- what the walk with the state knows at its end of the next state and of the outputs is what the step has
abbrev pub StepIsWalk : Type 0
StepIsWalk =
    (body : Statements) (outputs : List Name) (w : List Bool) (s : ℕ)
    → ((t : ℕ) → walk given_next w (Some s) body None ≡ Some t → (step_of body outputs w s).next ≡ t)
    × ((y : List Bool) → map (λ name. walk (given_output w name) w (Some s) body None) outputs ≡ map (λ b. Some b) y → (step_of body outputs w s).outs ≡ y)

-- the step is the same with other bits where these are the same at the ports that the statements read
abbrev pub ReadsAlone : Type 0
ReadsAlone =
    (f : Fsm) (w u : List Bool) (s : ℕ) → IsCheckedFsm f → SameAt (read_marks f) w u →
    step_of f.body (fsm_outputs f) w s ≡ step_of f.body (fsm_outputs f) u s
