-- Two runs over the same files, where a tool's answers to what stands in them have statuses that agree.
use Rattle.std.proofs.Common.{◌≡◌, ◌⊎◌, inl, inr, ℕ, List, Option, Some, sym, ◌∙◌, subst}
use Rattle.std.specs.Prelude.{IfSome, Result}
use Rattle.vlsi_base.specs.declared.fault.ReadError.{ReadError}
use Rattle.vlsi_base.specs.declared.fault.ReadError.TheVariants as reading
use Rattle.vlsi_shelf.specs.Files.{Files}
use Rattle.tool_drive.specs.declared.status.Status.{Status}
use Rattle.tool_drive.specs.declared.status.Status.TheVariants as status
use Rattle.tool_drive.specs.declared.status.FileCause.TheVariants.{Missing}
use Rattle.tool_drive.specs.declared.tool.Product.{Product}
use Rattle.tool_drive.specs.declared.tool.Refusal.{Refusal}
use Rattle.tool_drive.specs.Outside.{Outside, NothingFailed}
use Rattle.tool_drive.specs.Plan.{Plan, Inputs, Reading, got, lacking, long, reading as reading_of}
use Rattle.tool_drive.specs.Table.{file_limit, OrMemory, status_of as answered, Follows, IsComplete}
use Rattle.flow_run.specs.OneStatus.{AgreeBy, agree, first_memory, second_memory, RunsAgree}

-- how a refusal of a text is told
abbrev pub as_status : List ℕ → ReadError → Status
as_status file reading.Memory = status.Memory
as_status file (reading.Input f) = status.Source file f
as_status file (reading.Limit l) = status.Limit l

-- the refusal of a text that a status tells
pub record Told (file : List ℕ) (R : ReadError → Type 0) (s : Status) : Type 0 where
  pub error : ReadError
  pub is_refused : R error
  pub is : s ≡ as_status file error

at_files : (plan : Plan) (A : Inputs → Result Product Refusal → Type 0) (files : Files) (before now : Outside) (s : Status) → before.files ≡ Some files → NothingFailed before now
    → IsComplete plan A before now s → Follows A before now (reading_of files plan) s
at_files plan A files before now s told quiet complete =
    subst (λ (o : Option Files). IfSome o (λ fs. NothingFailed before now → Follows A before now (reading_of fs plan) s)) told complete quiet

-- an answer to what was read, or out of memory
abbrev Answers : (Inputs → Result Product Refusal → Type 0) → Inputs → Status → Type 0
Answers A i s = ((r : Result Product Refusal) × A i r × (s ≡ answered r)) ⊎ (s ≡ status.Memory)

module _ (plan : Plan) (A : Inputs → Result Product Refusal → Type 0) (R : Status → Status → Type 0) (alike : (s t : Status) → s ≡ t → R s t)
    (decides : (i : Inputs) (r q : Result Product Refusal) → A i r → A i q → R (answered r) (answered q)) where
  or_memory : (wanted s t : Status) → OrMemory wanted s → OrMemory wanted t → AgreeBy R s t
  or_memory wanted s t (inl e) (inl f) = agree (alike s t (e ∙ sym f))
  or_memory wanted s t (inr m) q = first_memory m
  or_memory wanted s t (inl e) (inr m) = second_memory m

  both_answer : (i : Inputs) (s t : Status) → Answers A i s → Answers A i t → AgreeBy R s t
  both_answer i s t (inl a) (inl b) =
      agree (subst (λ (u : Status). R u t) (sym a.2) (subst (λ (u : Status). R (answered a.0) u) (sym b.2) (decides i a.0 b.0 a.1 b.1)))
  both_answer i s t (inr m) q = first_memory m
  both_answer i s t (inl a) (inr m) = second_memory m

  pub runs_agree : RunsAgree plan A R
  runs_agree files before now again later s t told too quiet still complete whole =
      by (reading_of files plan) (at_files plan A files before now s told quiet.shelf complete) (at_files plan A files again later t too still.shelf whole) where
        by : (r : Reading Inputs) → Follows A before now r s → Follows A again later r t → AgreeBy R s t
        by (got i) p q = both_answer i s t (p quiet.sink) (q still.sink)
        by (lacking name) p q = or_memory (status.File Missing name) s t p q
        by (long most) p q = or_memory (status.Limit (file_limit most)) s t p q
