-- What `s2r` reads and answers.
use Rattle.std.specs.Prelude.{◌≡◌, ◌⊎◌, ℕ, List, [], ◌∷◌, ◌++◌, length, get_or, codes, true, false, None, Some, Result, Ok, Err}
use Rattle.vlsi_base.specs.declared.fault.FaultKind.TheVariants as kind
use Rattle.vlsi_base.specs.Names.{scalar}
use Rattle.ap_io.specs.declared.figure.Figure.{Figure}
use Rattle.ap_io.specs.ApText.{IsApText}
use Rattle.ap_io.specs.Refusal.{IsApRefusal}
use Rattle.cell_model.specs.Library.{Library}
use Rattle.cell_lib.specs.declared.error.LibError.{LibError}
use Rattle.cell_lib.specs.Files.{with_library}
use Rattle.cell_lib.specs.Library.{IsLibraryOf, IsRefusedLibrary, status_of}
use Rattle.s2r_cif.specs.declared.table.RealTable.{RealTable}
use Rattle.s2r_cif.specs.declared.layout.RealLayout.{RealLayout}
use Rattle.s2r_cif.specs.declared.error.RealError.{RealError}
use Rattle.s2r_cif.specs.declared.error.RealError.TheVariants as error
use Rattle.s2r_cif.specs.Real.{IsRealOf}
use Rattle.s2r_cif.specs.Refused.{CanBeReal, IsRealRefusal}
use Rattle.s2r_cif.specs.Cif.{cif_text}
use Rattle.real_table.specs.declared.table.ProcessTable.{ProcessTable}
use Rattle.real_table.specs.Process.{is_process, IsProcessText, IsProcessRefusal}
use Rattle.real_boxes.specs.declared.error.ProcessError.{ProcessError}
use Rattle.real_boxes.specs.Refused.{CanBeMade, layout_boxes, IsProcessRefusal as HasNoBoxes}
use Rattle.s2r_run.specs.declared.words.S2rCommand.{S2rCommand}
use Rattle.tool_drive.specs.declared.status.Status.{Status}
use Rattle.tool_drive.specs.declared.status.Status.TheVariants as status
use Rattle.tool_drive.specs.declared.status.Verdict.TheVariants.{Near}
use Rattle.tool_drive.specs.declared.tool.Product.{Product}
use Rattle.tool_drive.specs.declared.tool.Refusal.{Refusal}
use Rattle.tool_drive.specs.Lines.{count_line}
use Rattle.tool_drive.specs.Plan.{Plan, Inputs, limited, large}
use Rattle.tool_drive.specs.Refusals.{OfFile, whole_fault}
use Rattle.s2r_run.specs.RectText.{metal_text}
use Rattle.s2r_run.specs.TableText.{IsTableText, IsTableRefusal}
use Rattle.s2r_run.specs.Process.{IsProcessTold, IsProcessProduct}

-- SOURCE, TABLE, CATAL, and then the files of the cells that CATAL uses
abbrev pub s2r_plan : S2rCommand → Plan
s2r_plan c = with_library (large c.source ∷ limited c.table ∷ []) c.library

-- what stands in the files
pub record Texts : Type 0 where
  pub source : List ℕ
  pub table : List ℕ
  pub catal : List ℕ
  pub cells : List (List ℕ)

-- library, layout and table are read, where the table is a plain one
pub record AreRead (x : Texts) (l : Library) (f : Figure) (t : RealTable) : Type 0 where
  pub library : IsLibraryOf false x.catal x.cells l
  pub figure : IsApText x.source f
  pub plain : is_process x.table ≡ false
  pub table : IsTableText x.table t

-- and where it is one of a process
pub record AreReadOf (x : Texts) (l : Library) (f : Figure) (t : ProcessTable) : Type 0 where
  pub library : IsLibraryOf false x.catal x.cells l
  pub figure : IsApText x.source f
  pub process : is_process x.table ≡ true
  pub table : IsProcessText x.table t

-- The layout has a real one, whose CIF file is NAME.cif; the number of its boxes is printed, without the cuts.
pub record IsMadeReal (c : S2rCommand) (x : Texts) (p : Product) : Type 0 where
  pub l : Library
  pub f : Figure
  pub t : RealTable
  pub read : AreRead x l f t
  pub able : CanBeReal t f.items l
  pub r : RealLayout
  pub real : IsRealOf t f.items l r
  pub name : p.name ≡ c.out ++ codes ".cif"
  pub file : p.file ≡ Some (cif_text r)
  pub text : p.text ≡ count_line (codes "boxes") (length r.boxes)

-- The layout has boxes by a table of a process, whose CIF file is NAME.cif; their number is printed.
pub record IsMadeOf (c : S2rCommand) (x : Texts) (p : Product) : Type 0 where
  pub l : Library
  pub f : Figure
  pub t : ProcessTable
  pub read : AreReadOf x l f t
  pub able : CanBeMade t f.items l
  pub product : IsProcessProduct c t f (layout_boxes t f.items l) p

-- how a refusal of the real layout is told
abbrev pub IsToldOf : S2rCommand → RealError → Status → Type 0
IsToldOf c error.Memory s = ⊥
IsToldOf c (error.UnknownCell model) s = s ≡ whole_fault c.source kind.UnknownCell (scalar model ∷ [])
IsToldOf c (error.NotMappable model) s = s ≡ whole_fault c.source kind.Unsupported (scalar model ∷ [])
IsToldOf c (error.Limit limit) s = s ≡ status.Limit limit
IsToldOf c (error.Near metal a b) s = s ≡ status.No (Near (metal_text metal a b))

-- What is refused, in this order: the library, the layout, the table, and a layout that has no real one.
pub data IsS2rRefusal (c : S2rCommand) (x : Texts) (s : Status) : Type 0 where
  no_library : (e : LibError) → IsRefusedLibrary false x.catal x.cells e → s ≡ status_of e → IsS2rRefusal c x s
  bad_layout : (l : Library) → IsLibraryOf false x.catal x.cells l → OfFile c.source (IsApRefusal x.source) s → IsS2rRefusal c x s
  bad_table : (l : Library) (f : Figure) → IsLibraryOf false x.catal x.cells l → IsApText x.source f → is_process x.table ≡ false
      → OfFile c.table (IsTableRefusal x.table) s → IsS2rRefusal c x s
  bad_process : (l : Library) (f : Figure) → IsLibraryOf false x.catal x.cells l → IsApText x.source f → is_process x.table ≡ true
      → OfFile c.table (IsProcessRefusal x.table) s → IsS2rRefusal c x s
  unreal : (l : Library) (f : Figure) (t : RealTable) (e : RealError) → AreRead x l f t → IsRealRefusal t f.items l e → IsToldOf c e s → IsS2rRefusal c x s
  no_boxes : (l : Library) (f : Figure) (t : ProcessTable) (e : ProcessError) → AreReadOf x l f t → HasNoBoxes t f.items l e → IsProcessTold c e s → IsS2rRefusal c x s

-- the file is written, or one of these refusals
abbrev pub Makes : S2rCommand → Texts → Result Product Refusal → Type 0
Makes c x (Ok p) = IsMadeReal c x p ⊎ IsMadeOf c x p
Makes c x (Err r) = (r.part ≡ None) × IsS2rRefusal c x r.status

abbrev pub texts : List ℕ → List ℕ → List ℕ → List (List ℕ) → Texts
texts source table catal cells = record { source = source; table = table; catal = catal; cells = cells }

abbrev pub s2r_answers : S2rCommand → Inputs → Result Product Refusal → Type 0
s2r_answers c i r = Makes c (texts (get_or i.first 0 []) (get_or i.first 1 []) (get_or i.first 2 []) i.more) r

-- what is written and printed of a real layout
pub record IsProductOf (c : S2rCommand) (r : RealLayout) (p : Product) : Type 0 where
  pub name : p.name ≡ c.out ++ codes ".cif"
  pub file : p.file ≡ Some (cif_text r)
  pub text : p.text ≡ count_line (codes "boxes") (length r.boxes)
