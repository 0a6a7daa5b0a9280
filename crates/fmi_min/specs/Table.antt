-- The moves of a state machine, as a table.
use Rattle.std.specs.Prelude.{◌≡◌, ◌<◌, ◌↔◌, ◌^◌, ℕ, Bool, List, length, map}
use Rattle.fsm_machine.specs.Fsm.{Fsm, fsm_outputs}
use Rattle.fsm_machine.specs.MachineOf.{up}
use Rattle.fsm_walk.specs.declared.step.Step.{Step}
use Rattle.fsm_walk.specs.Step.{step_of}
use Rattle.fsm_walk.specs.Words.{word}
use Rattle.fsm_walk.specs.Reads.{read_marks, inputs_read}
use Rattle.fmi_refine.specs.declared.round.Move.{Move}
use Rattle.fmi_refine.specs.Rows.{row_at, move_at}
use Rattle.fmi_min.specs.Vectors.{picked}

-- how many vectors the inputs have that the body reads
abbrev pub vectors_read : Fsm → ℕ
vectors_read f = 2 ^ inputs_read f

-- the bits of the ports under each of these vectors
abbrev pub words_read : Fsm → List (List Bool)
words_read f = map (word (read_marks f)) (up 0 (vectors_read f))

-- the input vector of vector number v: inputs that the body doesn't read are 0
abbrev pub vector : Fsm → ℕ → List Bool
vector f v = picked f.clock f.ports (word (read_marks f) v)

-- the step from s under vector number v
abbrev pub step_under : Fsm → ℕ → ℕ → Step
step_under f s v = step_of f.body (fsm_outputs f) (word (read_marks f) v) s

-- A row for each state, in which each vector has a move to the next state. Moves have one number exactly if they give the same outputs.
pub record IsTable (f : Fsm) (rows : List (List Move)) : Type 0 where
  pub states : length rows ≡ length f.states
  pub each : (s : ℕ) → s < length rows → length (row_at rows s) ≡ vectors_read f
  pub next : (s v : ℕ) → s < length rows → v < vectors_read f → (move_at rows s v).next ≡ (step_under f s v).next
  pub outs : (s t v u : ℕ) → s < length rows → t < length rows → v < vectors_read f → u < vectors_read f
      → ((move_at rows s v).outs ≡ (move_at rows t u).outs) ↔ ((step_under f s v).outs ≡ (step_under f t u).outs)
