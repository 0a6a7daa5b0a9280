-- What a run of `gen` is: the text of a circuit is written as NAME.vbe, and from there `flow` answers.
use Rattle.std.specs.Prelude.{◌≡◌, ◌⊎◌, ◌≤◌, ℕ, ◌++◌, List, codes, Option, Some, IfSome}
use Rattle.std.specs.FinMap.{get, insert}
use Rattle.vlsi_base.specs.declared.fault.Limit.{Limit}
use Rattle.vlsi_shelf.specs.Files.{Files}
use Rattle.vlsi_shelf.specs.Counts.{Rose, NoneFalls}
use Rattle.vlsi_shelf.specs.Shelf.{Writes, SameBut}
use Rattle.vlsi_shelf.specs.Sink.{Puts}
use Rattle.machine_core.specs.Machine.{Machine}
use Rattle.vbe_io.specs.Text.{IsVbe}
use Rattle.catal.specs.Cells.{cells_in}
use Rattle.cell_model.specs.Library.{Library}
use Rattle.cell_lib.specs.declared.error.LibError.{LibError}
use Rattle.cell_lib.specs.Files.{catal_name, cell_files, library_plan}
use Rattle.cell_lib.specs.Library.{IsLibraryOf, IsRefusedLibrary, status_of}
use Rattle.boog_map.specs.Netlist.{Covers}
use Rattle.gen_circuit.specs.Generated.{generated}
use Rattle.gen_circuit.specs.Written.{text}
use Rattle.gen_circuit.specs.declared.making.TheConstants.{LEAST_SIZE, MOST_SIZE}
use Rattle.flow_words.specs.declared.words.GenCommand.{GenCommand}
use Rattle.flow_words.specs.Words.{IsWithinBounds}
use Rattle.tool_drive.specs.declared.status.Status.{Status}
use Rattle.tool_drive.specs.declared.status.Status.TheVariants as status
use Rattle.tool_drive.specs.declared.status.FileCause.TheVariants.{WriteFault}
use Rattle.tool_drive.specs.Outside.{Outside, IsUntouched, NothingFailed}
use Rattle.tool_drive.specs.Held.{Holds, AreHad}
use Rattle.tool_drive.specs.Plan.{long, reading}
use Rattle.tool_drive.specs.Table.{file_limit, Caused, IsComplete}
use Rattle.flow_run.specs.Origin.{equations}
use Rattle.flow_run.specs.Flow.{flow_plan, flow_answers, IsWithinNodes, IsFlowRefusal}
use Rattle.flow_run.specs.Causes.{IsDrawn, Ends}

-- What words that spell `gen` ask for: a circuit of 8 to 4,000 gates, and NAME.vbe for SOURCE.
pub record IsFitting (c : GenCommand) : Type 0 where
  pub least : LEAST_SIZE ≤ c.size
  pub most : c.size ≤ MOST_SIZE
  pub source : c.flow.source ≡ c.flow.out ++ codes ".vbe"
  pub bounds : IsWithinBounds c.flow

-- the circuit of the size and the seed that are asked for, and its text, in which the gates are g0, g1, and so on, as in the circuit
abbrev pub circuit_of : GenCommand → Machine
circuit_of c = generated c.flow.seed c.size

abbrev pub circuit_text : GenCommand → List ℕ
circuit_text c = text (circuit_of c)

-- ---- a run

-- The source wasn't written: memory ran out, and no file changed; or the shelf failed, and no other file changed.
abbrev pub IsUnwritten : GenCommand → Outside → Outside → Status → Type 0
IsUnwritten c before now status.Memory = IsUntouched before now
IsUnwritten c before now (status.File WriteFault name) =
    (name ≡ c.flow.source) × Rose before.counts.write_faults now.counts.write_faults × SameBut before.files now.files name
IsUnwritten c before now s = ⊥

-- NAME.vbe was written: it holds the text of the circuit, no other file changed, and nothing was printed.
pub record IsWritten (c : GenCommand) (before now : Outside) : Type 0 where
  pub files : Writes before.files now.files c.flow.source (circuit_text c)
  pub counts : NoneFalls before.counts now.counts
  pub told : now.told ≡ before.told
  pub faults : now.faults ≡ before.faults

-- Either the source wasn't written; or it was, and then `flow` answered what it answers to the files that stood there now: with its
-- cause, and over told files, where nothing failed, what they come to.
pub data IsRun (c : GenCommand) (before now : Outside) (s : Status) : Type 0 where
  unwritten : IsUnwritten c before now s → IsRun c before now s
  laid : (written : Outside) → IsWritten c before written → Caused (flow_plan c.flow) (flow_answers c.flow) written now s
      → IsComplete (flow_plan c.flow) (flow_answers c.flow) written now s → IsRun c before now s

-- ---- the headline

-- the files with NAME.vbe written
abbrev pub with_source : Files → GenCommand → Files
with_source files c = insert files c.flow.source (circuit_text c)

-- NAME.vbe holds a text of this circuit, as a text says a machine but for the order of its equations. NAME.ap is a right layout, by the library that stood there, of exactly this circuit, and
-- the report is that on it. Every other file is as it was.
pub record IsGenerated (old : Files) (now : Option Files) (c : GenCommand) (report : List ℕ) : Type 0 where
  pub itself : IsVbe (circuit_text c) (circuit_of c)
  pub drawn : IsDrawn (with_source old c) now c.flow report
  pub source : drawn.o ≡ equations
  pub circuit : drawn.m ≡ circuit_of c
  pub stands : IfSome now (λ files. get files c.flow.source ≡ Some (circuit_text c))

-- exactly the report was printed, and source and layout stand whole
abbrev pub IsGenHeadline : GenCommand → Outside → Outside → Type 0
IsGenHeadline c before now = (report : List ℕ) × Puts before.told now.told report × IfSome before.files (λ old. IsGenerated old now.files c report)

-- ---- refusals over told files

-- CATAL, or the first of its cells that is none, is refused so.
pub record IsLibraryRefused (c : GenCommand) (files : Files) (s : Status) : Type 0 where
  pub catal : List ℕ
  pub cells : List (List ℕ)
  pub catal_is : Holds files (catal_name c.flow.library) catal
  pub cells_are : AreHad files (cell_files c.flow.library (cells_in catal)) cells
  pub error : LibError
  pub refused : IsRefusedLibrary c.flow.tracks catal cells error
  pub is : s ≡ status_of error

-- a file of the library is the first that is longer than it may be
abbrev pub IsLibraryTooLong : GenCommand → Files → Limit → Type 0
IsLibraryTooLong c files l = (most : ℕ) × (l ≡ file_limit most) × (reading files (library_plan c.flow.library) ≡ long most)

-- Status 2 never comes, and 9 comes for a file of the library alone.
abbrev pub IsForLibrary : GenCommand → Files → Status → Type 0
IsForLibrary c files (status.Source name fault) = ⊥
IsForLibrary c files (status.Limit l) = IsLibraryTooLong c files l ⊎ IsLibraryRefused c files (status.Limit l)
IsForLibrary c files s = Unit {0}

-- So it is over files that are told, whatever the library is.
abbrev pub IsSourceSpared : GenCommand → Outside → Status → Type 0
IsSourceSpared c before s = IfSome before.files (λ old. IsForLibrary c (with_source old c) s)

-- ---- completeness

-- Nothing stands in the way: the files are told; with NAME.vbe written, all files of the library are there, and are one whose cells
-- may be drawn, with tracks where they are asked for, and which has a usable cell of each kind that mapping needs; no diagram of the circuit's roots is over the budget;
-- and no call on the shelf or the sink failed.
pub record IsGenFree (c : GenCommand) (before now : Outside) : Type 0 where
  pub files : Files
  pub told : before.files ≡ Some files
  pub catal : List ℕ
  pub cells : List (List ℕ)
  pub catal_is : Holds (with_source files c) (catal_name c.flow.library) catal
  pub cells_are : AreHad (with_source files c) (cell_files c.flow.library (cells_in catal)) cells
  pub l : Library
  pub library : IsLibraryOf c.flow.tracks catal cells l
  pub covered : Covers l (circuit_of c)
  pub within : IsWithinNodes (circuit_of c) c.flow.nodes
  pub ran : NothingFailed before now
  pub printed : Rose before.faults now.faults → ⊥

-- ---- laws

-- Whatever the circuit, what is written of it is never refused, where a library covers it and no diagram is over the budget.
abbrev pub CircuitsAreNeverRefused : Type 0
CircuitsAreNeverRefused =
    (c : GenCommand) (catal : List ℕ) (cells : List (List ℕ)) (l : Library) (s : Status)
    → IsFitting c → IsLibraryOf c.flow.tracks catal cells l → Covers l (circuit_of c)
    → IsWithinNodes (circuit_of c) c.flow.nodes → IsFlowRefusal c.flow (circuit_text c) catal cells s → ⊥

-- From a run to its headline, to what of its refusals comes, and to an answer of 0.
abbrev pub RunsHaveHeadlines : Type 0
RunsHaveHeadlines =
    (c : GenCommand) (before now : Outside) (s : Status) → IsFitting c → IsRun c before now s → s ≡ status.Accepted → IsGenHeadline c before now

abbrev pub SourcesAreSpared : Type 0
SourcesAreSpared = (c : GenCommand) (before now : Outside) (s : Status) → IsFitting c → IsRun c before now s → IsSourceSpared c before s

abbrev pub FreeRunsEnd : Type 0
FreeRunsEnd =
    (c : GenCommand) (before now : Outside) (s : Status) → IsFitting c → IsRun c before now s → IsGenFree c before now
    → Ends c.flow.tracks s
