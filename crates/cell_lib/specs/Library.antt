-- The library of a folder's files, and the first cell that is none.
use Rattle.std.specs.Prelude.{◌≡◌, ℕ, Bool, false, List, map}
use Rattle.vlsi_base.specs.declared.fault.LimitKind.TheVariants.{Width}
use Rattle.vbe_io.specs.declared.cell_text.CellText.{CellText}
use Rattle.vbe_io.specs.Cell.{IsCellText}
use Rattle.ap_io.specs.declared.figure.Figure.{Figure}
use Rattle.cell_model.specs.declared.function.Function.{Function}
use Rattle.cell_model.specs.declared.cell.Cell.{Cell}
use Rattle.cell_model.specs.View.{function_view}
use Rattle.cell_function.specs.Function.{IsFunctionOf}
use Rattle.cell_function.specs.Timing.{pin_of, arcs_of}
use Rattle.cell_checks.specs.declared.verdict.Check.{Check}
use Rattle.cell_checks.specs.declared.verdict.CellVerdict.TheVariants as verdict
use Rattle.cell_checks.specs.Verdict.{check_number, FailsFirst, IsVerdict}
use Rattle.cell_lib.specs.declared.error.LibError.{LibError}
use Rattle.cell_lib.specs.declared.error.LibError.TheVariants as errors
use Rattle.cell_lib.specs.declared.load.LibraryFiles.{LibraryFiles}
use Rattle.cell_lib.specs.Cells.{Source, sources, AreCells, IsFirstRefused}
use Rattle.cell_lib.specs.Causes.{IsVbeRefusal, IsLayout, IsLayoutRefusal}
use Rattle.cell_model.specs.Library.{Library as CellLibrary}
use Rattle.catal.specs.declared.error.CatalError.{CatalError}
use Rattle.catal.specs.Catal.{IsCatal, Refused, IsCatalRefusal}
use Rattle.tool_drive.specs.declared.status.Status.{Status}
use Rattle.tool_drive.specs.declared.status.Status.TheVariants as status
use Rattle.tool_drive.specs.declared.status.FileCause.TheVariants as cause
use Rattle.tool_drive.specs.declared.status.LibraryFault.TheVariants as fault
use Rattle.cell_lib.specs.Load.{refused}

-- the cell does what its text says: its function is that of the text's machine, its pins are the text's port bits with their
-- capacitances, and its arcs have the text's times
pub record DoesAs (text : CellText) (c : Cell) : Type 0 where
  pub computed : Function
  pub computes : IsFunctionOf text.machine computed
  pub function : c.function ≡ function_view computed
  pub pins : c.pins ≡ map (pin_of text.generics) text.ports
  pub arcs : c.arcs ≡ arcs_of computed text.ports text.generics

-- the cell looks as its layout does
pub record LooksAs (figure : Figure) (c : Cell) : Type 0 where
  pub bounds : c.bounds ≡ figure.bounds
  pub items : c.items ≡ figure.items

-- Both files of a name are read, and this is the cell that they say: its name is that of the list.
pub record IsSaid (source : Source) (c : Cell) : Type 0 where
  pub text : CellText
  pub text_read : IsCellText source.vbe text
  pub figure : Figure
  pub layout_read : IsLayout source.ap figure
  pub name : c.name ≡ source.name
  pub does : DoesAs text c
  pub looks : LooksAs figure c

-- a file of a name is refused, the behaviour before the layout
pub data IsUnsaid (source : Source) (e : LibError) : Type 0 where
  behaviour : IsVbeRefusal source.name source.vbe e → IsUnsaid source e
  layout : (text : CellText) → IsCellText source.vbe text → IsLayoutRefusal source.name source.ap e → IsUnsaid source e

-- the first check that a cell fails; and behind all checks, that it is too wide
pub data IsCheckRefusal (tracks : Bool) (c : Cell) (e : LibError) : Type 0 where
  fails : (k : Check) → FailsFirst tracks c k → e ≡ errors.BadCell c.name (check_number k) → IsCheckRefusal tracks c e
  wide : (columns : ℕ) → IsVerdict tracks c (verdict.TooWide columns) → e ≡ errors.Limit (record { which = Width; reached = columns })
      → IsCheckRefusal tracks c e

-- the cell of a name, which passes all checks
pub record IsCell (tracks : Bool) (source : Source) (c : Cell) : Type 0 where
  pub said : IsSaid source c
  pub passes : IsVerdict tracks c verdict.Passes

-- Why a name has no cell: the first check that fails, where a limit that a file passes stands in the place of its check.
pub data IsCellRefusal (tracks : Bool) (source : Source) (e : LibError) : Type 0 where
  unsaid : IsUnsaid source e → IsCellRefusal tracks source e
  unfit : (c : Cell) → IsSaid source c → IsCheckRefusal tracks c e → IsCellRefusal tracks source e

-- these are the cells of the library of these files, in the order of its list
abbrev pub AreLibrary : Bool → LibraryFiles → List Cell → Type 0
AreLibrary tracks files cells = AreCells (IsCell tracks) (sources files.names files.files.items) cells

-- the first name that has no cell, and why
abbrev pub IsLibraryRefusal : Bool → LibraryFiles → LibError → Type 0
IsLibraryRefusal tracks files e = IsFirstRefused (IsCell tracks) (IsCellRefusal tracks) (sources files.names files.files.items) e

-- ---- from the bytes of CATAL and of the cells' files

-- CATAL is refused, and so is the library; or memory has run out
pub record IsRefusedList (catal : List ℕ) (e : LibError) : Type 0 where
  pub fault : CatalError
  pub refusal : IsCatalRefusal catal fault
  pub told : e ≡ refused fault

-- CATAL uses these cells, and each is one: this is the library
pub record IsLibraryOf (tracks : Bool) (catal : List ℕ) (files : List (List ℕ)) (l : CellLibrary) : Type 0 where
  pub names : List (List ℕ)
  pub uses : IsCatal catal names
  pub cells : AreCells (IsCell tracks) (sources names files) l.cells

-- it was read without the checks for tracks
abbrev pub IsRead : CellLibrary → Type 0
IsRead l = (catal : List ℕ) × (files : List (List ℕ)) × IsLibraryOf false catal files l

-- why there is none: CATAL is refused, or the first cell that is none
pub data IsRefusedLibrary (tracks : Bool) (catal : List ℕ) (files : List (List ℕ)) (e : LibError) : Type 0 where
  bad_list : (fault : CatalError) → Refused catal fault → e ≡ refused fault → IsRefusedLibrary tracks catal files e
  bad_cell : (names : List (List ℕ)) → IsCatal catal names → IsFirstRefused (IsCell tracks) (IsCellRefusal tracks) (sources names files) e
      → IsRefusedLibrary tracks catal files e

-- the status of a tool that has no library
abbrev pub status_of : LibError → Status
status_of errors.Memory = status.Memory
status_of (errors.Missing name) = status.File cause.Missing name
status_of (errors.ReadFault name) = status.File cause.ReadFault name
status_of (errors.Limit l) = status.Limit l
status_of (errors.BadCatal line) = status.Library (fault.BadCatal line)
status_of (errors.BadCell cell number) = status.Library (fault.BadCell cell number)
