-- Completeness follows from the table.
use Rattle.std.proofs.Common.{◌≡◌, ℕ, List, Option, None, Some, Result, Ok, Err, refl, sym, ap, subst, inl, inr}
use Rattle.vlsi_base.specs.declared.fault.Limit.{Limit}
use Rattle.vlsi_shelf.specs.Files.{Files}
use Rattle.vlsi_shelf.specs.Counts.{Counts}
use Rattle.tool_drive.specs.declared.status.Status.{Status}
use Rattle.tool_drive.specs.declared.status.Status.TheVariants as status
use Rattle.tool_drive.specs.declared.status.FileCause.TheVariants.{Missing, ReadFault, WriteFault, OutFault}
use Rattle.tool_drive.specs.declared.tool.Product.{Product}
use Rattle.tool_drive.specs.declared.tool.Refusal.{Refusal}
use Rattle.tool_drive.specs.Outside.{Outside, NothingFailed}
use Rattle.tool_drive.specs.Plan.{Plan, Inputs, inputs, Reading, got, lacking, long, reading}
use Rattle.tool_drive.specs.Table.{refusal, ComesTo, Caused, Follows, IsComplete, status_of}
use Rattle.tool_drive.proofs.Stopping.{from_first}

abbrev at : Option Files → Counts → Option (List ℕ) → ℕ → Outside
at files counts told faults = record { files = files; counts = counts; told = told; faults = faults }

abbrev Goes : (Inputs → Result Product Refusal → Type 0) → Files → Counts → Option (List ℕ) → ℕ → Outside → Reading Inputs → Status → Type 0
Goes A files counts told faults now r s = Follows A (at (Some files) counts told faults) now r s

follows : (plan : Plan) (A : Inputs → Result Product Refusal → Type 0) (files : Files) (counts : Counts) (told : Option (List ℕ)) (faults : ℕ) (now : Outside) (s : Status)
    → Caused plan A (at (Some files) counts told faults) now s → NothingFailed (at (Some files) counts told faults) now → Follows A (at (Some files) counts told faults) now (reading files plan) s
follows plan A files counts told faults now s h nothing = by s h where
  all : (r : Result Product Refusal) → (c : ComesTo (Some files) plan A r) → reading files plan ≡ got (inputs c.first c.more)
  all r c = from_first files plan c.first (got c.more) c.first_read c.more_read

  answered : (r : Result Product Refusal) → ComesTo (Some files) plan A r → Goes A files counts told faults now (reading files plan) (status_of r)
  answered r c = subst (λ (x : Reading Inputs). Goes A files counts told faults now x (status_of r)) (sym (all r c)) (λ none. inl (r, c.answered, refl))

  memory : (x : Reading Inputs) → Goes A files counts told faults now x status.Memory
  memory (got i) = λ none. inr refl
  memory (lacking name) = inr refl
  memory (long most) = inr refl

  by : (s : Status) → Caused plan A (at (Some files) counts told faults) now s → Goes A files counts told faults now (reading files plan) s
  by status.Accepted h = answered (Ok h.0) h.1
  by (status.File Missing name) h = subst (λ (x : Reading Inputs). Goes A files counts told faults now x (status.File Missing name)) (sym h.3) (inl refl)
  by (status.File ReadFault name) h = absurd (nothing.reads h.1)
  by (status.File WriteFault name) h = absurd (nothing.writes h.0)
  by (status.File OutFault name) h =
      subst (λ (x : Reading Inputs). Goes A files counts told faults now x (status.File OutFault name)) (sym (all (Ok h.1.0) h.1.1)) (λ none. absurd (none h.0))
  by status.Memory h = memory (reading files plan)
  by (status.Limit l) h = elim h [
    | inl t ↦ subst (λ (x : Reading Inputs). Goes A files counts told faults now x (status.Limit l)) (sym t.1.2) (inl (ap (λ (k : Limit). status.Limit k) t.1.1))
    | inr c ↦ answered (Err (refusal (status.Limit l) c.0)) c.1
  ]
  by status.Usage h = absurd h
  by s h = answered (Err (refusal s h.0)) h.1

complete_of : (plan : Plan) (A : Inputs → Result Product Refusal → Type 0) (files : Option Files) (counts : Counts) (told : Option (List ℕ)) (faults : ℕ) (now : Outside) (s : Status)
    → Caused plan A (at files counts told faults) now s → IsComplete plan A (at files counts told faults) now s
complete_of plan A None counts told faults now s h = tt
complete_of plan A (Some files) counts told faults now s h = λ nothing. follows plan A files counts told faults now s h nothing

-- what has its cause is complete
pub complete : (plan : Plan) (A : Inputs → Result Product Refusal → Type 0) (before now : Outside) (s : Status) → Caused plan A before now s → IsComplete plan A before now s
complete plan A before now s h = complete_of plan A before.files before.counts before.told before.faults now s h
