-- The lines that refusals print, and those with a number that reports have.
use Rattle.std.specs.Prelude.{ℕ, Bool, true, false, List, [], ◌∷◌, ◌++◌, Option, None, Some, codes, if◌then◌else◌}
use Rattle.std.specs.Fmt.{decimal}
use Rattle.vlsi_base.specs.Fault.{fault_text, limit_text}
use Rattle.vlsi_base.specs.Name.{name_text}
use Rattle.vlsi_base.specs.declared.name.Name.{Name}
use Rattle.vlsi_base.specs.declared.name.Terminal.{Terminal}
use Rattle.vlsi_base.specs.declared.fault.InputFault.{InputFault}
use Rattle.vlsi_base.specs.declared.fault.Limit.{Limit}
use Rattle.tool_drive.specs.declared.status.Status.{Status}
use Rattle.tool_drive.specs.declared.status.Status.TheVariants as status
use Rattle.tool_drive.specs.declared.status.FileCause.{FileCause}
use Rattle.tool_drive.specs.declared.status.FileCause.TheVariants.{Missing, ReadFault, WriteFault, OutFault}
use Rattle.vlsi_base.specs.Kind.{kind_text}
use Rattle.tool_drive.specs.declared.status.LibraryFault.{LibraryFault}
use Rattle.tool_drive.specs.declared.status.LibraryFault.TheVariants.{BadCatal, BadCell}
use Rattle.tool_drive.specs.declared.status.Verdict.{Verdict}
use Rattle.tool_drive.specs.declared.status.Verdict.TheVariants as verdict

-- each name behind a blank
abbrev pub names_text : List Name → List ℕ
names_text [] = []
names_text (n ∷ names) = codes " " ++ (name_text n ++ names_text names)

-- a fault of a file: the file, the line, what is wrong, and the names at fault
abbrev pub source_text : List ℕ → InputFault → List ℕ
source_text file f = file ++ (codes ":" ++ (decimal f.line ++ (codes ": " ++ (fault_text f.kind ++ names_text f.names))))

-- a line of CATAL, or a cell and the check that it fails
abbrev pub library_text : LibraryFault → List ℕ
library_text (BadCatal line) = codes "catal " ++ decimal line
library_text (BadCell cell cause) = cell ++ (codes " " ++ decimal cause)

-- an instance stands before its pin
abbrev pub instance_text : Option (List ℕ) → List ℕ
instance_text None = []
instance_text (Some instance) = instance ++ codes "."

abbrev pub terminal_text : Terminal → List ℕ
terminal_text t = instance_text t.instance ++ name_text t.pin

abbrev pub limit_line : Limit → List ℕ
limit_line l = codes "limit: " ++ (limit_text l.which ++ (codes " " ++ decimal l.reached))

abbrev pub file_text : FileCause → List ℕ → List ℕ
file_text Missing name = codes "file: missing " ++ name
file_text ReadFault name = codes "file: read fault " ++ name
file_text WriteFault name = codes "file: write fault " ++ name
file_text OutFault name = []

abbrev pub verdict_text : Verdict → List ℕ
verdict_text (verdict.Differs label name) = codes "differs " ++ (label ++ (codes " " ++ name_text name))
verdict_text (verdict.NoBehaviour cell) = codes "no behaviour " ++ cell
verdict_text (verdict.Shorted a b) = codes "shorted " ++ (name_text a ++ (codes " " ++ name_text b))
verdict_text (verdict.Different name) = codes "different " ++ name_text name
verdict_text (verdict.Names name) = codes "names " ++ name_text name
verdict_text (verdict.Unequal name) = codes "differs " ++ name_text name
verdict_text (verdict.Broken lines) = lines
verdict_text (verdict.Near shapes) = codes "near " ++ shapes

-- breaches, and two functions that differ, are said without the tool's word
abbrev pub is_finding : Verdict → Bool
is_finding (verdict.Unequal name) = true
is_finding (verdict.Broken lines) = true
is_finding v = false

abbrev pub says_all : Status → Bool
says_all (status.No v) = is_finding v
says_all s = false

-- What a refusal says behind the tool's word. Wrong words have a line of their own; what has no line says nothing.
abbrev pub refusal_text : Status → List ℕ
refusal_text status.Accepted = []
refusal_text status.Usage = []
refusal_text (status.Source file fault) = source_text file fault
refusal_text (status.Library fault) = codes "library: " ++ library_text fault
refusal_text (status.NoCover which) = codes "no cover: " ++ kind_text which
refusal_text (status.Budget equation reached) = codes "budget: " ++ (name_text equation ++ (codes " " ++ decimal reached))
refusal_text (status.NoPath net terminal) = codes "no path: " ++ (decimal net ++ (codes " " ++ terminal_text terminal))
refusal_text (status.File cause name) = file_text cause name
refusal_text status.Memory = codes "memory"
refusal_text (status.Limit l) = limit_line l
refusal_text (status.No v) = verdict_text v

-- what stands in front: the tool's word, but for what says all by itself
abbrev pub opening : List ℕ → Status → List ℕ
opening word s = if says_all s then [] else word ++ codes ": "

-- the line that a tool's refusal prints
abbrev pub line_of : List ℕ → Status → List ℕ
line_of word s = opening word s ++ (refusal_text s ++ 10 ∷ [])

-- a line of a report: a word and a number
abbrev pub count_line : List ℕ → ℕ → List ℕ
count_line word n = word ++ (codes " " ++ (decimal n ++ 10 ∷ []))
