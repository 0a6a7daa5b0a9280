-- What `ocp` reads and answers.
use Rattle.std.specs.Prelude.{◌≡◌, ℕ, false, List, [], ◌∷◌, ◌++◌, get_or, codes, None, Some, Result, Ok, Err}
use Rattle.cell_model.specs.Library.{Library}
use Rattle.cell_lib.specs.declared.error.LibError.{LibError}
use Rattle.cell_lib.specs.Files.{with_library}
use Rattle.cell_lib.specs.Library.{IsLibraryOf, IsRefusedLibrary, status_of}
use Rattle.cell_pins.specs.Table.{IsTableOf}
use Rattle.net_core.specs.declared.pins.ModelPins.{ModelPins}
use Rattle.net_core.specs.Netlist.{Netlist}
use Rattle.net_meaning.specs.Netlist.{AbstractNetlist as Seen}
use Rattle.net_right.specs.View.{IsSeenAs}
use Rattle.ap_io.specs.declared.figure.Figure.{Figure}
use Rattle.ap_io.specs.Spelling.{text_of}
use Rattle.ocp_rows.specs.Length.{half_perimeter}
use Rattle.ocp_place.specs.Placed.{InRow, IsRowPlacementOf, IsEvenPlacement, rows_of}
use Rattle.ocp_anneal.specs.Rows.{IsWellPlaced}
use Rattle.route_draw.specs.Grid.{IsDrawnPlaced}
use Rattle.tool_drive.specs.declared.status.Status.{Status}
use Rattle.tool_drive.specs.declared.tool.Product.{Product}
use Rattle.tool_drive.specs.declared.tool.Refusal.{Refusal}
use Rattle.tool_drive.specs.Lines.{count_line}
use Rattle.tool_drive.specs.Plan.{Plan, Inputs, large}
use Rattle.ocp_run.specs.Asked.{Asked}
use Rattle.ocp_run.specs.Source.{AreRead, IsNoSource}

-- SOURCE, CATAL, and then the files of the cells that CATAL uses
abbrev pub ocp_plan : Asked → Plan
ocp_plan c = with_library (large c.source ∷ []) c.library

abbrev pub layout_name : List ℕ → List ℕ
layout_name out = out ++ codes ".ap"

-- The placement is drawn without routes, and written.
pub record IsPlacedText (l : Library) (n : Netlist) (p : InRow) (bytes : List ℕ) : Type 0 where
  pub figure : Figure
  pub drawn : IsDrawnPlaced l n p figure
  pub text : bytes ≡ text_of figure

-- its text is that of NAME.ap, and it is printed how long its nets are
pub record IsWrittenAs (out : List ℕ) (l : Library) (n : Netlist) (p : InRow) (product : Product) : Type 0 where
  pub bytes : List ℕ
  pub name : product.name ≡ layout_name out
  pub file : product.file ≡ Some bytes
  pub drawn : IsPlacedText l n p bytes
  pub text : (k : Seen) → IsSeenAs n k → product.text ≡ count_line (codes "length") (half_perimeter k l (rows_of k p))

-- The placement is one of the netlist, in rows as they are asked for: none is much wider than the others, no exchange of neighbours makes
-- the nets shorter, and they are no longer than after so many moves from the first placement.
pub record IsPlacedAs (c : Asked) (l : Library) (n : Netlist) (p : InRow) : Type 0 where
  pub placed : IsRowPlacementOf l n p
  pub even : IsEvenPlacement l n p
  pub good : IsWellPlaced l n c.rows c.seed c.moves p

-- Library and netlist are read, and its placement is written.
pub record IsPlacing (c : Asked) (source catal : List ℕ) (cells : List (List ℕ)) (product : Product) : Type 0 where
  pub l : Library
  pub table : List ModelPins
  pub n : Netlist
  pub read : AreRead source catal cells l table n
  pub placement : InRow
  pub placed : IsPlacedAs c l n placement
  pub written : IsWrittenAs c.out l n placement product

-- What is refused, in this order: the library, and the netlist.
pub data IsOcpRefusal (c : Asked) (source catal : List ℕ) (cells : List (List ℕ)) (s : Status) : Type 0 where
  no_library : (e : LibError) → IsRefusedLibrary false catal cells e → s ≡ status_of e → IsOcpRefusal c source catal cells s
  no_source : (l : Library) (table : List ModelPins) → IsLibraryOf false catal cells l → IsTableOf l false table
      → IsNoSource c.source source table s → IsOcpRefusal c source catal cells s

-- the placement is written and the length is printed, or one of these refusals
abbrev pub Places : Asked → List ℕ → List ℕ → List (List ℕ) → Result Product Refusal → Type 0
Places c source catal cells (Ok p) = IsPlacing c source catal cells p
Places c source catal cells (Err r) = (r.part ≡ None) × IsOcpRefusal c source catal cells r.status

abbrev pub ocp_answers : Asked → Inputs → Result Product Refusal → Type 0
ocp_answers c i r = Places c (get_or i.first 0 []) (get_or i.first 1 []) i.more r
