-- What `nero` reads and answers.
use Rattle.std.specs.Prelude.{◌≡◌, ◌≤◌, ℕ, false, List, [], ◌∷◌, get_or, codes, None, Some, Result, Ok, Err}
use Rattle.vlsi_base.specs.declared.fault.FaultKind.TheVariants as kind
use Rattle.vlsi_base.specs.declared.fault.LimitKind.TheVariants.{Size}
use Rattle.vlsi_base.specs.declared.name.Terminal.{Terminal}
use Rattle.cell_model.specs.Library.{Library}
use Rattle.cell_lib.specs.declared.error.LibError.{LibError}
use Rattle.cell_lib.specs.Files.{with_library}
use Rattle.cell_lib.specs.Library.{IsLibraryOf, IsRefusedLibrary, status_of}
use Rattle.cell_pins.specs.Table.{IsTableOf}
use Rattle.net_core.specs.declared.pins.ModelPins.{ModelPins}
use Rattle.net_core.specs.Netlist.{Netlist}
use Rattle.net_meaning.specs.Netlist.{AbstractNetlist as Seen}
use Rattle.net_right.specs.View.{IsSeenAs}
use Rattle.ap_io.specs.declared.figure.Figure.{Figure}
use Rattle.ap_io.specs.ApText.{IsApText}
use Rattle.ap_io.specs.Refusal.{IsApRefusal}
use Rattle.ocp_rows.specs.Placement.{net_count}
use Rattle.ocp_place.specs.Placed.{InRow, IsRowPlacementOf}
use Rattle.grid_core.specs.Numbers.{nodes}
use Rattle.ocp_grid.specs.Points.{grid_of, HasFewNodes}
use Rattle.route_draw.specs.Grid.{IsDrawnPlaced}
use Rattle.ocp_figure.specs.Answers.{HasNoPlacement}
use Rattle.tool_drive.specs.declared.status.Status.{Status}
use Rattle.tool_drive.specs.declared.status.Status.TheVariants as status
use Rattle.tool_drive.specs.declared.tool.Product.{Product}
use Rattle.tool_drive.specs.declared.tool.Refusal.{Refusal}
use Rattle.tool_drive.specs.Lines.{count_line}
use Rattle.tool_drive.specs.Plan.{Plan, Inputs, large}
use Rattle.tool_drive.specs.Refusals.{OfFile, whole_fault}
use Rattle.ocp_run.specs.Source.{AreRead, IsNoSource}
use Rattle.ocp_run.specs.Ocp.{layout_name}
use Rattle.nero_run.specs.Asked.{Asked}
use Rattle.nero_run.specs.RowText.{part_name, IsRoutedText, IsStuckText}

-- SOURCE, PLACED, CATAL, and then the files of the cells that CATAL uses
abbrev pub nero_plan : Asked → Plan
nero_plan c = with_library (large c.source ∷ large c.placed ∷ []) c.library

-- what stands in the files
pub record Texts : Type 0 where
  pub source : List ℕ
  pub placed : List ℕ
  pub catal : List ℕ
  pub cells : List (List ℕ)

-- the texts of what was read
abbrev pub texts : List (List ℕ) → List (List ℕ) → Texts
texts first more = record { source = get_or first 0 []; placed = get_or first 1 []; catal = get_or first 2 []; cells = more }

-- the library and the netlist are read
abbrev pub NetlistIsRead : Texts → Library → List ModelPins → Netlist → Type 0
NetlistIsRead t l table n = AreRead t.source t.catal t.cells l table n

-- the bytes are a figure, which is the drawing of this placement of a netlist, without routes
pub record IsPlacementIn (bytes : List ℕ) (l : Library) (n : Netlist) (p : InRow) : Type 0 where
  pub figure : Figure
  pub file : IsApText bytes figure
  pub placed : IsRowPlacementOf l n p
  pub drawn : IsDrawnPlaced l n p figure

-- why a file is no placement of a netlist: its text is refused, or its figure is the drawing of none
pub data IsUnplaced (file bytes : List ℕ) (l : Library) (n : Netlist) (s : Status) : Type 0 where
  bad_layout : OfFile file (IsApRefusal bytes) s → IsUnplaced file bytes l n s
  not_placed : (f : Figure) → IsApText bytes f → HasNoPlacement l n f → s ≡ whole_fault file kind.NotPlaced [] → IsUnplaced file bytes l n s

-- The grid over the rows has more nodes than 32 bits can number beside one number that stands for none; that many are told.
abbrev pub IsOverGrid : Library → Netlist → InRow → ℕ → Status → Type 0
IsOverGrid l n p metals s =
    (k : Seen) × IsSeenAs n k × (4294967295 ≤ nodes (grid_of metals k l p))
    × (s ≡ status.Limit (record { which = Size; reached = nodes (grid_of metals k l p) }))

-- a library, a netlist and its placement, as they are read
pub record IsGiven (t : Texts) (l : Library) (n : Netlist) (p : InRow) : Type 0 where
  pub table : List ModelPins
  pub read : NetlistIsRead t l table n
  pub placed : IsPlacementIn t.placed l n p

-- and the grid over the rows isn't too large
pub record IsRoutable (c : Asked) (t : Texts) (l : Library) (n : Netlist) (p : InRow) : Type 0 where
  pub given : IsGiven t l n p
  pub few : HasFewNodes l n p c.metals

-- NAME.ap is the text of the placement with routes: its nets were routed by half perimeter, then by number, each whole and by least paths
-- beside those before it. It is printed how many nets there are.
pub record IsLaidOut (c : Asked) (l : Library) (n : Netlist) (p : InRow) (product : Product) : Type 0 where
  pub bytes : List ℕ
  pub name : product.name ≡ layout_name c.out
  pub file : product.file ≡ Some bytes
  pub routed : IsRoutedText l n p c.metals bytes
  pub text : (k : Seen) → IsSeenAs n k → product.text ≡ count_line (codes "nets") (net_count k)

-- They were routed so up to a net that got stuck, and NAME_part.ap shows it.
pub record IsLeftStuck (c : Asked) (l : Library) (n : Netlist) (p : InRow) (r : Refusal) : Type 0 where
  pub net : ℕ
  pub terminal : Terminal
  pub status : r.status ≡ status.NoPath net terminal
  pub bytes : List ℕ
  pub part : r.part ≡ Some (record { name = part_name c.out; bytes = bytes })
  pub shown : IsStuckText l n p c.metals net terminal bytes

-- Library, netlist and placement are read, and the layout is written.
pub record IsRouting (c : Asked) (t : Texts) (product : Product) : Type 0 where
  pub l : Library
  pub n : Netlist
  pub placement : InRow
  pub routable : IsRoutable c t l n placement
  pub laid : IsLaidOut c l n placement product

-- What is refused without a file, in this order: the library, the netlist, its placement, and a grid with too many nodes.
pub data IsPlainRefusal (c : Asked) (t : Texts) (s : Status) : Type 0 where
  no_library : (e : LibError) → IsRefusedLibrary false t.catal t.cells e → s ≡ status_of e → IsPlainRefusal c t s
  no_source : (l : Library) (table : List ModelPins) → IsLibraryOf false t.catal t.cells l → IsTableOf l false table
      → IsNoSource c.source t.source table s → IsPlainRefusal c t s
  unplaced : (l : Library) (table : List ModelPins) (n : Netlist) → NetlistIsRead t l table n → IsUnplaced c.placed t.placed l n s → IsPlainRefusal c t s
  large_grid : (l : Library) (n : Netlist) (p : InRow) → IsGiven t l n p → IsOverGrid l n p c.metals s → IsPlainRefusal c t s

-- one of these, without a file; or then a net that got stuck
pub data IsNeroRefusal (c : Asked) (t : Texts) (r : Refusal) : Type 0 where
  plain : r.part ≡ None → IsPlainRefusal c t r.status → IsNeroRefusal c t r
  stuck : (l : Library) (n : Netlist) (p : InRow) → IsRoutable c t l n p → IsLeftStuck c l n p r → IsNeroRefusal c t r

-- the layout is written and the number of nets is printed, or one of these refusals
abbrev pub Routes : Asked → Texts → Result Product Refusal → Type 0
Routes c t (Ok p) = IsRouting c t p
Routes c t (Err r) = IsNeroRefusal c t r

abbrev pub nero_answers : Asked → Inputs → Result Product Refusal → Type 0
nero_answers c i r = Routes c (texts i.first i.more) r
