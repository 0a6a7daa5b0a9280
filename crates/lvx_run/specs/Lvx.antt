-- What `lvx` reads and answers.
use Rattle.std.specs.Prelude.{◌≡◌, ◌⊎◌, ℕ, true, false, List, [], ◌∷◌, ◌++◌, codes, get_or, None, Result, Ok, Err}
use Rattle.vlsi_base.specs.declared.name.Name.{Name}
use Rattle.cell_model.specs.Library.{Library}
use Rattle.cell_lib.specs.declared.error.LibError.{LibError}
use Rattle.cell_lib.specs.Files.{with_library}
use Rattle.cell_lib.specs.Library.{IsLibraryOf, IsRefusedLibrary, status_of}
use Rattle.cell_pins.specs.Table.{IsTableOf}
use Rattle.net_core.specs.declared.pins.ModelPins.{ModelPins}
use Rattle.net_core.specs.Netlist.{Netlist}
use Rattle.vst_io.specs.Text.{IsVst, IsVstRefusal}
use Rattle.lvx_compare.specs.Compared.{AreSame, IsDifference}
use Rattle.lvx_run.specs.declared.words.LvxCommand.{LvxCommand}
use Rattle.tool_drive.specs.declared.status.Status.{Status}
use Rattle.tool_drive.specs.declared.status.Status.TheVariants as status
use Rattle.tool_drive.specs.declared.status.Verdict.TheVariants.{Different}
use Rattle.tool_drive.specs.declared.tool.Product.{Product}
use Rattle.tool_drive.specs.declared.tool.Refusal.{Refusal}
use Rattle.tool_drive.specs.Plan.{Plan, Inputs, large}
use Rattle.tool_drive.specs.Refusals.{OfFile}

-- SOURCE, the second file, CATAL, and then the files of the cells that CATAL uses
abbrev pub lvx_plan : LvxCommand → Plan
lvx_plan c = with_library (large c.source ∷ large c.other ∷ []) c.library

-- what stands in the files
pub record Texts : Type 0 where
  pub source : List ℕ
  pub other : List ℕ
  pub catal : List ℕ
  pub cells : List (List ℕ)

-- CATAL and the cells' files are this library, and this is the table of the pins of all its cells
pub record AreCells (t : Texts) (l : Library) (table : List ModelPins) : Type 0 where
  pub library : IsLibraryOf false t.catal t.cells l
  pub pins : IsTableOf l true table

-- the two files are these netlists of the library's cells
pub record AreRead (t : Texts) (a b : Netlist) : Type 0 where
  pub l : Library
  pub table : List ModelPins
  pub cells : AreCells t l table
  pub first : IsVst t.source table a
  pub second : IsVst t.other table b

-- the two files are netlists that are the same by name
pub record IsSame (t : Texts) : Type 0 where
  pub a : Netlist
  pub b : Netlist
  pub read : AreRead t a b
  pub same : AreSame a b

-- why not both files are netlists of the cells in a table: SOURCE is refused, or else the second file
abbrev pub IsUnread : LvxCommand → List ℕ → List ℕ → List ModelPins → Status → Type 0
IsUnread c source other table s =
    OfFile c.source (IsVstRefusal source table) s ⊎ ((n : Netlist) × IsVst source table n × OfFile c.other (IsVstRefusal other table) s)

-- What is refused, in this order: the library, SOURCE, the second file, the first name that differs.
pub data IsLvxRefusal (c : LvxCommand) (t : Texts) (s : Status) : Type 0 where
  no_library : (e : LibError) → IsRefusedLibrary false t.catal t.cells e → s ≡ status_of e → IsLvxRefusal c t s
  unread : (l : Library) (table : List ModelPins) → AreCells t l table → IsUnread c t.source t.other table s → IsLvxRefusal c t s
  different : (a b : Netlist) (name : Name) → AreRead t a b → IsDifference a b name → s ≡ status.No (Different name) → IsLvxRefusal c t s

abbrev pub same_text : List ℕ
same_text = codes "same" ++ 10 ∷ []

-- what is answered to two netlists
abbrev pub Tells : LvxCommand → Netlist → Netlist → Result Product Refusal → Type 0
Tells c a b (Ok p) = (p.name ≡ c.source) × (p.file ≡ None) × (p.text ≡ same_text) × AreSame a b
Tells c a b (Err r) = (r.part ≡ None) × ((name : Name) × IsDifference a b name × (r.status ≡ status.No (Different name)))

-- The netlists are the same, this is printed, and no file is written; or one of these refusals.
abbrev pub Compares : LvxCommand → Texts → Result Product Refusal → Type 0
Compares c t (Ok p) = (p.name ≡ c.source) × (p.file ≡ None) × (p.text ≡ same_text) × IsSame t
Compares c t (Err r) = (r.part ≡ None) × IsLvxRefusal c t r.status

-- the texts of what was read
abbrev pub texts : List (List ℕ) → List (List ℕ) → Texts
texts first more = record { source = get_or first 0 []; other = get_or first 1 []; catal = get_or first 2 []; cells = more }

abbrev pub lvx_answers : LvxCommand → Inputs → Result Product Refusal → Type 0
lvx_answers c i r = Compares c (texts i.first i.more) r
