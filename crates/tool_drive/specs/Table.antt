-- When each status comes, and what it leaves: one table for all tools.
use Rattle.std.specs.Prelude.{◌≡◌, ◌⊎◌, ℕ, ◌+◌, ◌-◌, ◌^◌, min, List, Option, None, Some, IfSome, IsSome, Result, Ok, Err, refl}
use Rattle.std.proofs.Common.{inr}
use Rattle.vlsi_base.specs.declared.fault.LimitKind.TheVariants as kind
use Rattle.vlsi_base.specs.declared.fault.Limit.{Limit}
use Rattle.vlsi_shelf.specs.Files.{Files}
use Rattle.vlsi_shelf.specs.Counts.{Rose}
use Rattle.vlsi_shelf.specs.Shelf.{Writes, SameBut}
use Rattle.vlsi_shelf.specs.Sink.{Puts, PutsPart}
use Rattle.tool_drive.specs.declared.status.Status.{Status}
use Rattle.tool_drive.specs.declared.status.Status.TheVariants as status
use Rattle.tool_drive.specs.declared.status.FileCause.TheVariants.{Missing, ReadFault, WriteFault, OutFault}
use Rattle.tool_drive.specs.declared.tool.Written.{Written}
use Rattle.tool_drive.specs.declared.tool.Product.{Product}
use Rattle.tool_drive.specs.declared.tool.Refusal.{Refusal}
use Rattle.tool_drive.specs.Outside.{Outside, IsUntouched, NothingFailed}
use Rattle.tool_drive.specs.Plan.{Plan, Inputs, inputs, Reading, got, lacking, long, reading, Gathers, IsAsked}

-- ---- what a tool answers

abbrev pub refusal : Status → Option Written → Refusal
refusal s part = record { status = s; part = part }

-- A refusal has a status of judging, for which this holds; only out of memory is free, and it leaves no file.
abbrev pub IsFair : Status → Option Written → Type 0 → Type 0
IsFair status.Memory part P = part ≡ None
IsFair status.Accepted part P = ⊥
IsFair status.Usage part P = ⊥
IsFair (status.File cause name) part P = ⊥
IsFair s part P = P

-- a tool's answer is one that its definition has, or out of memory
abbrev pub IsJudged : (Result Product Refusal → Type 0) → Result Product Refusal → Type 0
IsJudged A (Ok p) = A (Ok p)
IsJudged A (Err r) = IsFair r.status r.part (A (Err r))

-- this was read of the plan's files, and the tool answers this to it
pub record ComesTo (told : Option Files) (plan : Plan) (A : Inputs → Result Product Refusal → Type 0) (answer : Result Product Refusal) : Type 0 where
  pub first : List (List ℕ)
  pub more : List (List ℕ)
  pub first_read : Gathers told plan.first (got first)
  pub more_read : Gathers told (plan.more first) (got more)
  pub answered : A (inputs first more) answer

-- ---- what is left

-- the file was written, if there is one, and no other changed
abbrev pub IsStored : Option Files → Option Files → List ℕ → Option (List ℕ) → Type 0
IsStored before now name None = now ≡ before
IsStored before now name (Some bytes) = Writes before now name bytes

abbrev pub IsLeft : Option Files → Option Files → Option Written → Type 0
IsLeft before now None = now ≡ before
IsLeft before now (Some part) = Writes before now part.name part.bytes

abbrev pub IsPart : List ℕ → Option Written → Type 0
IsPart name None = ⊥
IsPart name (Some part) = name ≡ part.name

-- the answer writes a file of this name
abbrev pub IsWriting : List ℕ → Result Product Refusal → Type 0
IsWriting name (Ok p) = (name ≡ p.name) × IsSome p.file
IsWriting name (Err r) = IsPart name r.part

-- as a number of 64 bits
abbrev pub file_limit : ℕ → Limit
file_limit most = record { which = kind.File; reached = min (most + 1) (2 ^ 64 - 1) }

-- the first file in fault is longer than it may be
abbrev pub IsTooLong : Option Files → Plan → Limit → Type 0
IsTooLong told plan l = (most : ℕ) × (l ≡ file_limit most) × IfSome told (λ files. reading files plan ≡ long most)

-- What is left once all was read and the tool has judged, where P says which answers it may have given.
abbrev pub Left : (Result Product Refusal → Type 0) → Outside → Outside → Status → Type 0
Left P before now status.Accepted = (p : Product) × P (Ok p) × IsStored before.files now.files p.name p.file × Puts before.told now.told p.text
Left P before now (status.File WriteFault name) =
    Rose before.counts.write_faults now.counts.write_faults × SameBut before.files now.files name
    × ((r : Result Product Refusal) × P r × IsWriting name r)
Left P before now (status.File OutFault name) =
    Rose before.faults now.faults
    × ((p : Product) × P (Ok p) × (name ≡ p.name) × IsStored before.files now.files p.name p.file × PutsPart before.told now.told p.text)
Left P before now status.Memory = IsUntouched before now ⊎ ((p : Product) × P (Ok p) × IsStored before.files now.files p.name p.file)
Left P before now (status.File Missing name) = ⊥
Left P before now (status.File ReadFault name) = ⊥
Left P before now status.Usage = ⊥
Left P before now s = (part : Option Written) × P (Err (refusal s part)) × IsLeft before.files now.files part

-- For each status when it comes, and what it leaves. What isn't here never comes.
abbrev pub Caused : Plan → (Inputs → Result Product Refusal → Type 0) → Outside → Outside → Status → Type 0
Caused plan A before now (status.File Missing name) =
    IsUntouched before now × Rose before.counts.misses now.counts.misses × IsAsked before.files plan name
    × IfSome before.files (λ files. reading files plan ≡ lacking name)
Caused plan A before now (status.File ReadFault name) =
    IsUntouched before now × Rose before.counts.read_faults now.counts.read_faults × IsAsked before.files plan name
Caused plan A before now (status.Limit l) =
    (IsUntouched before now × IsTooLong before.files plan l) ⊎ Left (ComesTo before.files plan A) before now (status.Limit l)
Caused plan A before now s = Left (ComesTo before.files plan A) before now s

-- ---- completeness

-- this status, or out of memory
abbrev pub OrMemory : Status → Status → Type 0
OrMemory wanted s = (s ≡ wanted) ⊎ (s ≡ status.Memory)

-- the status of an answer
abbrev pub status_of : Result Product Refusal → Status
status_of (Ok p) = status.Accepted
status_of (Err r) = r.status

-- what reading comes to decides the status; where all was read, so does the tool's answer to it, if no put failed
abbrev pub Follows : (Inputs → Result Product Refusal → Type 0) → Outside → Outside → Reading Inputs → Status → Type 0
Follows A before now (lacking name) s = OrMemory (status.File Missing name) s
Follows A before now (long most) s = OrMemory (status.Limit (file_limit most)) s
Follows A before now (got i) s =
    (Rose before.faults now.faults → ⊥) → ((r : Result Product Refusal) × A i r × (s ≡ status_of r)) ⊎ (s ≡ status.Memory)

-- over files that are told, where no call on the shelf failed, the status is what they come to, or out of memory
abbrev pub IsComplete : Plan → (Inputs → Result Product Refusal → Type 0) → Outside → Outside → Status → Type 0
IsComplete plan A before now s = IfSome before.files (λ files. NothingFailed before now → Follows A before now (reading files plan) s)

-- ---- lemmas that tools' proofs cite

-- out of memory answers everything
pub memory_complete : (plan : Plan) (A : Inputs → Result Product Refusal → Type 0) (before now : Outside) → IsComplete plan A before now status.Memory
memory_complete plan A before now = by before.files where
  memory : (r : Reading Inputs) → Follows A before now r status.Memory
  memory (got i) = λ none. inr refl
  memory (lacking name) = inr refl
  memory (long most) = inr refl

  by : (told : Option Files) → IfSome told (λ files. NothingFailed before now → Follows A before now (reading files plan) status.Memory)
  by None = tt
  by (Some files) = λ none. memory (reading files plan)
