-- What `scapin` reads and answers.
use Rattle.std.specs.Prelude.{◌≡◌, ℕ, zero, false, List, [], ◌∷◌, ◌++◌, length, get_or, codes, None, Some, Result, Ok, Err, bytes_eq, if◌then◌else◌}
use Prim.Native.Nat.{suc}
use Rattle.vlsi_base.specs.declared.fault.FaultKind.{FaultKind}
use Rattle.vlsi_base.specs.declared.fault.FaultKind.TheVariants as kind
use Rattle.vlsi_base.specs.Names.{scalar}
use Rattle.cell_model.specs.Library.{Library}
use Rattle.cell_lib.specs.declared.error.LibError.{LibError}
use Rattle.cell_lib.specs.Files.{with_library}
use Rattle.cell_lib.specs.Library.{IsLibraryOf, IsRefusedLibrary, status_of}
use Rattle.cell_pins.specs.Table.{IsTableOf}
use Rattle.net_core.specs.declared.pins.ModelPins.{ModelPins}
use Rattle.net_core.specs.Places.{Stands}
use Rattle.net_core.specs.Netlist.{Netlist, IsNetlist}
use Rattle.net_right.specs.Condition.{MeetsCondition}
use Rattle.path_io.specs.declared.reader.PathFile.{PathFile}
use Rattle.path_io.specs.PathText.{IsPathText, IsPathTextRefusal}
use Rattle.scan_theory.specs.Scan.{IsScanned}
use Rattle.scan_checks.specs.declared.error.ScanError.{ScanError}
use Rattle.scan_checks.specs.declared.error.ScanError.TheVariants as error
use Rattle.scan_checks.specs.Refused.{IsScanRefusal}
use Rattle.scapin.specs.Inserted.{IsAble, IsScanPath}
use Rattle.spell_theory.specs.Layout.{text_of}
use Rattle.vst_print.specs.Written.{layout}
use Rattle.vst_io.specs.Text.{IsVst, IsVstRefusal}
use Rattle.scapin_run.specs.declared.words.ScapinCommand.{ScapinCommand}
use Rattle.tool_drive.specs.declared.status.Status.{Status}
use Rattle.tool_drive.specs.declared.status.Status.TheVariants as status
use Rattle.tool_drive.specs.declared.tool.Product.{Product}
use Rattle.tool_drive.specs.declared.tool.Refusal.{Refusal}
use Rattle.tool_drive.specs.Lines.{count_line}
use Rattle.tool_drive.specs.Plan.{Plan, Inputs, limited, large}
use Rattle.tool_drive.specs.Refusals.{OfFile, whole_fault}

-- SOURCE, PATH, CATAL, and then the files of the cells that CATAL uses
abbrev pub scapin_plan : ScapinCommand → Plan
scapin_plan c = with_library (large c.source ∷ limited c.path ∷ []) c.library

-- what stands in the files
pub record Texts : Type 0 where
  pub source : List ℕ
  pub path : List ℕ
  pub catal : List ℕ
  pub cells : List (List ℕ)

-- the text of the netlist, by the table of the usable cells' pins, is that of NAME.vst, and the number of its instances is printed
pub record IsWrittenAs (out : List ℕ) (table : List ModelPins) (n : Netlist) (p : Product) : Type 0 where
  pub name : p.name ≡ out ++ codes ".vst"
  pub file : p.file ≡ Some (text_of (layout n table))
  pub text : p.text ≡ count_line (codes "cells") (length n.instances)

-- CATAL and the cells' files are this library, this is the table of the pins of its usable cells, and SOURCE is this netlist of them,
-- which meets what the stages ask
pub record IsSource (x : Texts) (l : Library) (table : List ModelPins) (n : Netlist) : Type 0 where
  pub library : IsLibraryOf false x.catal x.cells l
  pub pins : IsTableOf l false table
  pub netlist : IsVst x.source table n
  pub met : MeetsCondition table n

-- and PATH is this path
pub record AreRead (x : Texts) (l : Library) (table : List ModelPins) (n : Netlist) (f : PathFile) : Type 0 where
  pub source : IsSource x l table n
  pub path : IsPathText x.path f

-- Library, netlist and path are read. Nothing speaks against a scan path, and the netlist with it is written, which meets what the
-- stages ask: so it passes the checks. It behaves as the given one where test is 0, and shifts where test is 1.
pub record IsScanning (c : ScapinCommand) (x : Texts) (p : Product) : Type 0 where
  pub l : Library
  pub table : List ModelPins
  pub n : Netlist
  pub f : PathFile
  pub read : AreRead x l table n f
  pub able : IsAble l n f.names.items
  pub r : Netlist
  pub sound : IsNetlist r
  pub scanned : IsScanned n l f.names.items r
  pub met : MeetsCondition table r
  pub scans : IsScanPath l f.names.items n r
  pub written : IsWrittenAs c.out table r p

-- ---- refusals

-- a fault with one name at a line of a file
abbrev pub fault_at : List ℕ → ℕ → FaultKind → List ℕ → Status
fault_at file line which text = status.Source file (record { line = line; kind = which; names = scalar text ∷ [] })

-- Where a path is refused at a place, the fault stands on the line of the name at this place.
abbrev pub IsAtPlace : ScapinCommand → PathFile → ℕ → FaultKind → List ℕ → Status → Type 0
IsAtPlace c f place which text s = (line : ℕ) × Stands f.lines.items place line × (s ≡ fault_at c.path line which text)

-- how a refusal is told: on line 1 of SOURCE, on the line of PATH that the name stands on, or on the last line of PATH
abbrev pub IsToldBy : (c : ScapinCommand) (l : Library) (n : Netlist) (f : PathFile) (e : ScanError) → IsScanRefusal l n f.names.items e → Status → Type 0
IsToldBy c l n f error.Memory h s = ⊥
IsToldBy c l n f (error.Taken text) h s = s ≡ whole_fault c.source kind.Twice (scalar text ∷ [])
IsToldBy c l n f (error.NoCover k) h s = s ≡ status.NoCover k
IsToldBy c l n f (error.Unknown text) h s = IsAtPlace c f h.fault.place kind.Unknown text s
IsToldBy c l n f (error.Twice text) h s = IsAtPlace c f h.fault.first.place kind.Twice text s
IsToldBy c l n f (error.Left text) h s = s ≡ fault_at c.path f.last kind.NotAssigned text

-- What is refused, in this order: the library, the netlist, the path's text, and the scan path.
pub data IsScapinRefusal (c : ScapinCommand) (x : Texts) (s : Status) : Type 0 where
  no_library : (e : LibError) → IsRefusedLibrary false x.catal x.cells e → s ≡ status_of e → IsScapinRefusal c x s
  bad_netlist : (l : Library) (table : List ModelPins) → IsLibraryOf false x.catal x.cells l → IsTableOf l false table
      → OfFile c.source (IsVstRefusal x.source table) s → IsScapinRefusal c x s
  bad_path : (l : Library) (table : List ModelPins) (n : Netlist) → IsSource x l table n → OfFile c.path (IsPathTextRefusal x.path) s
      → IsScapinRefusal c x s
  no_scan : (l : Library) (table : List ModelPins) (n : Netlist) (f : PathFile) → AreRead x l table n f
      → (e : ScanError) (h : IsScanRefusal l n f.names.items e) → IsToldBy c l n f e h s → IsScapinRefusal c x s

-- the netlist is written, or one of these refusals
abbrev pub Makes : ScapinCommand → Texts → Result Product Refusal → Type 0
Makes c x (Ok p) = IsScanning c x p
Makes c x (Err r) = (r.part ≡ None) × IsScapinRefusal c x r.status

abbrev pub texts : List ℕ → List ℕ → List ℕ → List (List ℕ) → Texts
texts source path catal cells = record { source = source; path = path; catal = catal; cells = cells }

abbrev pub scapin_answers : ScapinCommand → Inputs → Result Product Refusal → Type 0
scapin_answers c i r = Makes c (texts (get_or i.first 0 []) (get_or i.first 1 []) (get_or i.first 2 []) i.more) r

-- ---- parts of it

-- a line where no name stands before, else what stands behind it
abbrev pub line_or : ℕ → ℕ → (ℕ → ℕ) → ℕ
line_or line zero behind = line
line_or line (suc before) behind = behind before

-- the line of the name behind so many of its text; past the end the last line
abbrev pub line_among : List (List ℕ) → List ℕ → ℕ → List ℕ → ℕ → ℕ
line_among [] lines last text before = last
line_among (name ∷ names) [] last text before = last
line_among (name ∷ names) (line ∷ lines) last text before =
    if bytes_eq name text then line_or line before (line_among names lines last text) else line_among names lines last text before

abbrev pub line_of : PathFile → List ℕ → ℕ → ℕ
line_of f text before = line_among f.names.items f.lines.items f.last text before

-- the same by the names alone
abbrev pub IsToldOf : ScapinCommand → PathFile → ScanError → Status → Type 0
IsToldOf c f error.Memory s = ⊥
IsToldOf c f (error.Taken text) s = s ≡ whole_fault c.source kind.Twice (scalar text ∷ [])
IsToldOf c f (error.NoCover k) s = s ≡ status.NoCover k
IsToldOf c f (error.Unknown text) s = s ≡ fault_at c.path (line_of f text 0) kind.Unknown text
IsToldOf c f (error.Twice text) s = s ≡ fault_at c.path (line_of f text 1) kind.Twice text
IsToldOf c f (error.Left text) s = s ≡ fault_at c.path f.last kind.NotAssigned text
