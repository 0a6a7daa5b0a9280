-- From the refusals of the reader and of the stages to the tool's.
use Rattle.std.proofs.Common.{◌≡◌, ℕ, ◌<◌, ◌≤◌, List, None, Err, sym, subst, refl}
use Rattle.vlsi_base.specs.declared.fault.ReadError.{ReadError}
use Rattle.machine_core.specs.Machine.{Machine}
use Rattle.machine_core.specs.Size.{machine_size}
use Rattle.vbe_io.specs.Text.{IsVbe, IsVbeRefusal}
use Rattle.boom_run.specs.declared.words.BoomCommand.{BoomCommand}
use Rattle.tool_drive.specs.declared.status.Status.{Status}
use Rattle.tool_drive.specs.Table.{IsJudged, IsFair, refusal}
use Rattle.tool_drive.specs.Refusals.{MemoryOr, OfFile, of_file, judged_file, judged}
use Rattle.tool_drive.specs.Size.{size_limit}
use Rattle.tool_drive.specs.declared.size.TheConstants.{MOST_SIZE}
use Rattle.boom_run.specs.Boom.{IsBudgetStatus, bad_source, too_large, over_budget, MakesSmaller}

pub by_source : (c : BoomCommand) (source : List ℕ) (e : ReadError) (s : Status) → IsVbeRefusal source e → MemoryOr s (OfFile c.source (λ x. x ≡ e) s)
    → IsJudged (MakesSmaller c source) (Err (refusal s None))
by_source c source e s h k =
    judged_file (MakesSmaller c source) c.source (IsVbeRefusal source) s (of_file c.source (IsVbeRefusal source) e h s k) (λ o. (refl, bad_source o))

pub by_size : (c : BoomCommand) (source : List ℕ) (m : Machine) (s : Status) → IsVbe source m → MOST_SIZE < machine_size m → s ≡ size_limit m
    → IsJudged (MakesSmaller c source) (Err (refusal s None))
by_size c source m s machine big is =
    subst (λ (t : Status). IsJudged (MakesSmaller c source) (Err (refusal t None))) (sym is) (refl, too_large m machine big refl)

pub by_budget : (c : BoomCommand) (source : List ℕ) (m : Machine) (s : Status) → IsVbe source m → machine_size m ≤ MOST_SIZE
    → MemoryOr s (IsBudgetStatus m c.nodes s) → IsJudged (MakesSmaller c source) (Err (refusal s None))
by_budget c source m s machine small h = judged (MakesSmaller c source) (λ t. IsBudgetStatus m c.nodes t) told s h where
  told : (t : Status) → IsBudgetStatus m c.nodes t → IsFair t None (MakesSmaller c source (Err (refusal t None)))
  told t k =
      subst (λ (x : Status). IsFair x None (MakesSmaller c source (Err (refusal t None)))) (sym k.is) (refl, over_budget m machine small k)
