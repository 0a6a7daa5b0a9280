-- That the words and the files decide the status: two that the same files allow are the same, but for what the definitions leave free.
use Rattle.std.specs.Prelude.{◌≡◌, ◌⊎◌, ℕ, false, List, Some, Result}
use Rattle.vlsi_base.specs.declared.name.Name.{Name}
use Rattle.vlsi_base.specs.declared.name.Terminal.{Terminal}
use Rattle.vlsi_base.specs.declared.fault.FaultKind.TheVariants.{Cycle}
use Rattle.vlsi_shelf.specs.Files.{Files}
use Rattle.vlsi_shelf.specs.Counts.{Rose}
use Rattle.flow_words.specs.declared.words.FlowCommand.{FlowCommand}
use Rattle.tool_drive.specs.declared.status.Status.{Status}
use Rattle.tool_drive.specs.declared.status.Status.TheVariants as status
use Rattle.tool_drive.specs.declared.tool.Product.{Product}
use Rattle.tool_drive.specs.declared.tool.Refusal.{Refusal}
use Rattle.tool_drive.specs.Outside.{Outside, NothingFailed}
use Rattle.tool_drive.specs.Plan.{Plan, Inputs}
use Rattle.tool_drive.specs.Table.{IsComplete}
use Rattle.flow_run.specs.Origin.{is_fsm}
use Rattle.flow_run.specs.Flow.{IsFlowRefusal, flow_plan, flow_answers}

-- ---- runs of any tool

-- no call on the shelf or the sink failed
pub record IsQuiet (before now : Outside) : Type 0 where
  pub shelf : NothingFailed before now
  pub sink : Rose before.faults now.faults → ⊥

-- two statuses agree as R says, or one of them is that memory ran out
pub data AgreeBy (R : Status → Status → Type 0) (s t : Status) : Type 0 where
  agree : R s t → AgreeBy R s t
  first_memory : s ≡ status.Memory → AgreeBy R s t
  second_memory : t ≡ status.Memory → AgreeBy R s t

-- Two runs of a tool over the same files, in which no call failed, have statuses that agree so; A are its answers to what it reads.
abbrev pub RunsAgree : Plan → (Inputs → Result Product Refusal → Type 0) → (Status → Status → Type 0) → Type 0
RunsAgree plan A R =
    (files : Files) (before now again later : Outside) (s t : Status)
    → before.files ≡ Some files → again.files ≡ Some files → IsQuiet before now → IsQuiet again later
    → IsComplete plan A before now s → IsComplete plan A again later t → AgreeBy R s t

-- ---- `flow`

-- the status names a ring of signals of this file
abbrev pub NamesSourceRing : List ℕ → Status → Type 0
NamesSourceRing file s = (line : ℕ) × (names : List Name) × (s ≡ status.Source file (record { line = line; kind = Cycle; names = names }))

-- SOURCE is in data flow, and both name a ring of its signals: of several rings any may be named
pub record AreRings (c : FlowCommand) (s t : Status) : Type 0 where
  pub equations : is_fsm c ≡ false
  pub first : NamesSourceRing c.source s
  pub second : NamesSourceRing c.source t

-- Two refusals of what stands in the files have one status, or both name a ring.
abbrev pub FilesHaveOneRefusal : Type 0
FilesHaveOneRefusal =
    (c : FlowCommand) (source catal : List ℕ) (cells : List (List ℕ)) (s t : Status)
    → IsFlowRefusal c source catal cells s → IsFlowRefusal c source catal cells t → (s ≡ t) ⊎ AreRings c s t

-- a layout is drawn, or a net gets stuck
abbrev pub IsLaidOrStuck : Status → Type 0
IsLaidOrStuck s = (s ≡ status.Accepted) ⊎ ((net : ℕ) × (terminal : Terminal) × (s ≡ status.NoPath net terminal))

-- Two statuses are the same. Otherwise both name a ring of SOURCE's signals; or, where no tracks are asked for, each is that a layout is
-- drawn or that a net gets stuck, since where cells stand in rows isn't told by the files alone.
pub data HaveOneStatus (c : FlowCommand) (s t : Status) : Type 0 where
  same : s ≡ t → HaveOneStatus c s t
  rings : AreRings c s t → HaveOneStatus c s t
  ends : c.tracks ≡ false → IsLaidOrStuck s → IsLaidOrStuck t → HaveOneStatus c s t

-- Two runs of one command over the same files, in which no call failed, have one status, as far as the files tell it, or one of them
-- ran out of memory.
abbrev pub OneStatus : Type 0
OneStatus = (c : FlowCommand) → RunsAgree (flow_plan c) (flow_answers c) (HaveOneStatus c)
