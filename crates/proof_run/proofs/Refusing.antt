-- From the refusals of the reader and of the comparison to the tool's.
use Rattle.std.proofs.Common.{ℕ, List, None, Err, refl}
use Rattle.machine_core.specs.Machine.{Machine}
use Rattle.vbe_io.specs.Text.{IsVbe, IsVbeRefusal}
use Rattle.proof_run.specs.declared.words.ProofCommand.{ProofCommand}
use Rattle.tool_drive.specs.declared.status.Status.{Status}
use Rattle.tool_drive.specs.declared.status.Status.TheVariants as status
use Rattle.tool_drive.specs.declared.status.FileCause.{FileCause}
use Rattle.tool_drive.specs.Table.{IsFair, IsJudged, refusal}
use Rattle.tool_drive.specs.Refusals.{MemoryOr, OfFile, memory_then, judged}
use Rattle.proof_run.specs.Proof.{IsFinding, IsProofRefusal, bad_source, bad_other, found, Compares}

pub by_source : (c : ProofCommand) (source other : List ℕ) (s : Status) → MemoryOr s (OfFile c.source (IsVbeRefusal source) s) → MemoryOr s (IsProofRefusal c source other s)
by_source c source other s k = memory_then s (OfFile c.source (IsVbeRefusal source) s) (IsProofRefusal c source other s) (λ o. bad_source o) k

pub by_other : (c : ProofCommand) (source other : List ℕ) (a : Machine) (s : Status) → IsVbe source a → MemoryOr s (OfFile c.other (IsVbeRefusal other) s) → MemoryOr s (IsProofRefusal c source other s)
by_other c source other a s machine k = memory_then s (OfFile c.other (IsVbeRefusal other) s) (IsProofRefusal c source other s) (λ o. bad_other a machine o) k

pub by_finding : (c : ProofCommand) (source other : List ℕ) (a b : Machine) (s : Status) → IsVbe source a → IsVbe other b → MemoryOr s (IsFinding a b c.nodes s)
    → MemoryOr s (IsProofRefusal c source other s)
by_finding c source other a b s first second k = memory_then s (IsFinding a b c.nodes s) (IsProofRefusal c source other s) (λ o. found a b first second o) k

-- a refusal leaves no file
pub refused_plain : (c : ProofCommand) (source other : List ℕ) (s : Status) → MemoryOr s (IsProofRefusal c source other s) → IsJudged (Compares c source other) (Err (refusal s None))
refused_plain c source other s k = judged (Compares c source other) (λ t. IsProofRefusal c source other t) told s k where
  accepted : IsProofRefusal c source other status.Accepted → ⊥
  accepted (bad_source o) = o
  accepted (bad_other a m o) = o
  accepted (found a b m n o) = o

  usage : IsProofRefusal c source other status.Usage → ⊥
  usage (bad_source o) = o
  usage (bad_other a m o) = o
  usage (found a b m n o) = o

  of_files : (cause : FileCause) (name : List ℕ) → IsProofRefusal c source other (status.File cause name) → ⊥
  of_files cause name (bad_source o) = o
  of_files cause name (bad_other a m o) = o
  of_files cause name (found a b m n o) = o

  told : (t : Status) → IsProofRefusal c source other t → IsFair t None (Compares c source other (Err (refusal t None)))
  told status.Memory k = refl
  told status.Accepted k = absurd (accepted k)
  told status.Usage k = absurd (usage k)
  told (status.File cause name) k = absurd (of_files cause name k)
  told t k = (refl, k)
