-- From the stages' answers to the tool's.
use Rattle.std.proofs.Common.{◌≡◌, ℕ, List, None, Err, refl, sym, subst}
use Rattle.fsm_machine.specs.Fsm.{Fsm}
use Rattle.fsm_io.specs.Text.{IsFsm}
use Rattle.fmi_run.specs.declared.words.FmiCommand.{FmiCommand}
use Rattle.fmi_run.specs.Fmi.{IsTooMany, too_many, Minimises}
use Rattle.tool_drive.specs.declared.status.Status.{Status}
use Rattle.tool_drive.specs.Table.{IsJudged, IsFair, refusal}
use Rattle.tool_drive.specs.Refusals.{MemoryOr, judged}

-- a machine whose statements read too many inputs is refused by a status of judging
fair : (f : Fsm) (s : Status) (P : Type 0) → IsTooMany f s → P → IsFair s None P
fair f s P (big, is) p = subst (λ (t : Status). IsFair t None P) (sym is) p

pub by_limit : (c : FmiCommand) (source : List ℕ) (f : Fsm) (s : Status) → IsFsm source f → MemoryOr s (IsTooMany f s)
    → IsJudged (Minimises c source) (Err (refusal s None))
by_limit c source f s machine h = judged (Minimises c source) (λ t. IsTooMany f t) told s h where
  told : (t : Status) → IsTooMany f t → IsFair t None (Minimises c source (Err (refusal t None)))
  told t k = fair f t (Minimises c source (Err (refusal t None))) k (refl, too_many f machine k)
