-- What stands behind an answer of 0, and when it has to come, said of the files themselves.
use Rattle.std.specs.Prelude.{◌≡◌, ◌⊎◌, ℕ, Bool, true, false, List, Option, Some, IfSome}
use Rattle.std.specs.FinMap.{insert}
use Rattle.vlsi_base.specs.declared.name.Terminal.{Terminal}
use Rattle.vlsi_shelf.specs.Files.{Files}
use Rattle.vlsi_shelf.specs.Counts.{Rose}
use Rattle.vlsi_shelf.specs.Sink.{Puts}
use Rattle.machine_core.specs.Machine.{Machine}
use Rattle.catal.specs.Cells.{cells_in}
use Rattle.cell_model.specs.Library.{Library}
use Rattle.cell_lib.specs.Files.{catal_name, cell_files}
use Rattle.boog_map.specs.Netlist.{Covers}
use Rattle.flow_words.specs.declared.words.FlowCommand.{FlowCommand}
use Rattle.tool_drive.specs.declared.status.Status.{Status}
use Rattle.tool_drive.specs.declared.status.Status.TheVariants as status
use Rattle.tool_drive.specs.Outside.{Outside, NothingFailed}
use Rattle.tool_drive.specs.Held.{Holds, AreHad}
use Rattle.flow_run.specs.Drawn.{layout_name}
use Rattle.flow_run.specs.Origin.{Origin}
use Rattle.flow_run.specs.Flow.{AreRead, IsWithinNodes}
use Rattle.flow_run.specs.Route.{route_of}
use Rattle.flow_run.specs.RightLayout.{IsRightLayout}

-- SOURCE, the library's CATAL, and the behaviour and the layout of each cell that this uses are there, none too long, with these bytes.
pub record Stand (files : Files) (c : FlowCommand) (source catal : List ℕ) (cells : List (List ℕ)) : Type 0 where
  pub source_is : Holds files c.source source
  pub catal_is : Holds files (catal_name c.library) catal
  pub cells_are : AreHad files (cell_files c.library (cells_in catal)) cells

-- The layout stands whole: the files that were there are this machine and this library; NAME.ap is now the text of a right layout for
-- them, on which the report is this one; and every other file is as it was.
pub record IsDrawn (old : Files) (now : Option Files) (c : FlowCommand) (report : List ℕ) : Type 0 where
  pub source : List ℕ
  pub catal : List ℕ
  pub cells : List (List ℕ)
  pub stood : Stand old c source catal cells
  pub o : Origin
  pub m : Machine
  pub l : Library
  pub read : AreRead c source catal cells o m l
  pub bytes : List ℕ
  pub written : now ≡ Some (insert old (layout_name c.out) bytes)
  pub right : IsRightLayout bytes o m l c.fanout (route_of c) report

-- the layout stands whole, on a shelf that tells its files
abbrev pub StandsWhole : Outside → Outside → FlowCommand → List ℕ → Type 0
StandsWhole before now c report = IfSome before.files (λ old. IsDrawn old now.files c report)

-- The headline: NAME.ap is a right layout for the source and the library that were read, nothing else changed, and exactly the
-- report on it was printed.
abbrev pub IsHeadline : FlowCommand → Outside → Outside → Type 0
IsHeadline c before now = (report : List ℕ) × Puts before.told now.told report × StandsWhole before now c report

-- Nothing stands in the way of a layout: the files are told and all are there; the source is a machine that isn't too large, and the
-- others are a library, whose cells may be drawn, with tracks where they are asked for, and which has a usable cell of each kind that
-- mapping needs; no diagram of the
-- machine's roots is over the budget; and no call on the shelf or the sink failed.
pub record IsFree (c : FlowCommand) (before now : Outside) : Type 0 where
  pub files : Files
  pub told : before.files ≡ Some files
  pub source : List ℕ
  pub catal : List ℕ
  pub cells : List (List ℕ)
  pub stood : Stand files c source catal cells
  pub o : Origin
  pub m : Machine
  pub l : Library
  pub are_read : AreRead c source catal cells o m l
  pub covered : Covers l m
  pub within : IsWithinNodes m c.nodes
  pub read : NothingFailed before now
  pub printed : Rose before.faults now.faults → ⊥

-- what then comes: the layout, or without tracks a net that gets stuck, or out of memory
abbrev pub Ends : Bool → Status → Type 0
Ends true s = (s ≡ status.Accepted) ⊎ (s ≡ status.Memory)
Ends false s = (s ≡ status.Accepted) ⊎ (s ≡ status.Memory) ⊎ ((net : ℕ) × (terminal : Terminal) × (s ≡ status.NoPath net terminal))
