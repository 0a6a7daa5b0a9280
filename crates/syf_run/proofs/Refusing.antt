-- From the refusals of the reader to the tool's.
use Rattle.std.proofs.Common.{◌≡◌, ℕ, List, None, Err, refl}
use Rattle.vlsi_base.specs.declared.fault.ReadError.{ReadError}
use Rattle.fsm_io.specs.Text.{IsFsmRefusal}
use Rattle.syf_run.specs.declared.words.SyfCommand.{SyfCommand}
use Rattle.tool_drive.specs.declared.status.Status.{Status}
use Rattle.tool_drive.specs.Table.{IsJudged, refusal}
use Rattle.tool_drive.specs.Refusals.{MemoryOr, OfFile, of_file, judged_file}
use Rattle.syf_run.specs.Syf.{Encodes}

pub by_source : (c : SyfCommand) (source : List ℕ) (e : ReadError) (s : Status) → IsFsmRefusal source e → MemoryOr s (OfFile c.source (λ x. x ≡ e) s)
    → IsJudged (Encodes c source) (Err (refusal s None))
by_source c source e s h k =
    judged_file (Encodes c source) c.source (IsFsmRefusal source) s (of_file c.source (IsFsmRefusal source) e h s k) (λ o. (refl, o))
