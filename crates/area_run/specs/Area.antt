-- What `area` reads and answers.
use Rattle.std.specs.Prelude.{◌≡◌, ℕ, ◌<◌, ◌≤◌, false, List, [], ◌∷◌, ◌++◌, length, get_or, codes, None, Result, Ok, Err}
use Rattle.machine_core.specs.Machine.{Machine}
use Rattle.machine_core.specs.Size.{machine_size}
use Rattle.vbe_io.specs.Text.{IsVbe, IsVbeRefusal}
use Rattle.vlsi_base.specs.declared.kind.Kind.{Kind}
use Rattle.cell_model.specs.Library.{Library}
use Rattle.cell_model.specs.Covering.{IsFirstMissing}
use Rattle.cell_lib.specs.declared.error.LibError.{LibError}
use Rattle.cell_lib.specs.Files.{with_library}
use Rattle.cell_lib.specs.Library.{IsLibraryOf, IsRefusedLibrary, status_of}
use Rattle.graph_theory.specs.Graph.{Graph, held_count}
use Rattle.subject_graph.specs.Subject.{IsSubjectGraph}
use Rattle.boog_part.specs.Part.{IsNeededPart}
use Rattle.boog_tree.specs.Trees.{tree_roots}
use Rattle.boog_area.specs.Covers.{AreCellBounds, root_sum, IsLeastArea}
use Rattle.boog_area.specs.Refused.{tree_kinds, CoversTrees}
use Rattle.area_run.specs.declared.words.AreaCommand.{AreaCommand}
use Rattle.tool_drive.specs.declared.status.Status.{Status}
use Rattle.tool_drive.specs.declared.status.Status.TheVariants as status
use Rattle.tool_drive.specs.declared.tool.Product.{Product}
use Rattle.tool_drive.specs.declared.tool.Refusal.{Refusal}
use Rattle.tool_drive.specs.declared.size.TheConstants.{MOST_SIZE}
use Rattle.tool_drive.specs.Lines.{count_line}
use Rattle.tool_drive.specs.Plan.{Plan, Inputs, limited}
use Rattle.tool_drive.specs.Refusals.{OfFile}
use Rattle.tool_drive.specs.Size.{size_limit}

-- SOURCE, then CATAL, and then the files of the cells that CATAL uses
abbrev pub area_plan : AreaCommand → Plan
area_plan c = with_library (limited c.source ∷ []) c.library

-- how many trees there are, and an area in columns
abbrev pub report : ℕ → ℕ → List ℕ
report trees area = count_line (codes "trees") trees ++ count_line (codes "area") area

-- the part of the machine's subject graph that outputs and registers need
pub record IsPartOf (m : Machine) (part : Graph) : Type 0 where
  pub graph : Graph
  pub subject : IsSubjectGraph m graph
  pub needed : IsNeededPart (held_count m) graph part

-- This part has so many trees, and all covers of them by usable cells of the library have at least this area, which some have. It is the sum of
-- the roots' bounds, and these show it by themselves: none is above what a match at its gate comes to.
pub record HasTrees (l : Library) (m : Machine) (trees area : ℕ) : Type 0 where
  pub part : Graph
  pub is_part : IsPartOf m part
  pub count : trees ≡ length (tree_roots (held_count m) part)
  pub bounds : List ℕ
  pub checked : AreCellBounds l (held_count m) part bounds
  pub sum : area ≡ root_sum (held_count m) part bounds
  pub least : IsLeastArea l (held_count m) part area

-- Library and source are read, the library has a usable inverter and nand of two inputs, and the number of trees and their least area are
-- printed; no file is written.
pub record IsMeasured (c : AreaCommand) (source catal : List ℕ) (cells : List (List ℕ)) (p : Product) : Type 0 where
  pub l : Library
  pub library : IsLibraryOf false catal cells l
  pub m : Machine
  pub machine : IsVbe source m
  pub small : machine_size m ≤ MOST_SIZE
  pub covered : CoversTrees l
  pub trees : ℕ
  pub area : ℕ
  pub has : HasTrees l m trees area
  pub name : p.name ≡ c.source
  pub file : p.file ≡ None
  pub text : p.text ≡ report trees area

-- why a machine's trees aren't covered: it is too large, or else no usable cell is an inverter, or else none a nand of two inputs
pub data IsNoCover (l : Library) (m : Machine) (s : Status) : Type 0 where
  too_large : MOST_SIZE < machine_size m → s ≡ size_limit m → IsNoCover l m s
  no_cell : machine_size m ≤ MOST_SIZE → (k : Kind) → IsFirstMissing l.cells k tree_kinds → s ≡ status.NoCover k → IsNoCover l m s

-- What is refused, in this order: the library, the source, its machine.
pub data IsAreaRefusal (c : AreaCommand) (source catal : List ℕ) (cells : List (List ℕ)) (s : Status) : Type 0 where
  no_library : (e : LibError) → IsRefusedLibrary false catal cells e → s ≡ status_of e → IsAreaRefusal c source catal cells s
  bad_source : (l : Library) → IsLibraryOf false catal cells l → OfFile c.source (IsVbeRefusal source) s → IsAreaRefusal c source catal cells s
  no_cover : (l : Library) (m : Machine) → IsLibraryOf false catal cells l → IsVbe source m → IsNoCover l m s → IsAreaRefusal c source catal cells s

-- the trees are counted and their least area is printed, or one of these refusals
abbrev pub Measures : AreaCommand → List ℕ → List ℕ → List (List ℕ) → Result Product Refusal → Type 0
Measures c source catal cells (Ok p) = IsMeasured c source catal cells p
Measures c source catal cells (Err r) = (r.part ≡ None) × IsAreaRefusal c source catal cells r.status

abbrev pub area_answers : AreaCommand → Inputs → Result Product Refusal → Type 0
area_answers c i r = Measures c (get_or i.first 0 []) (get_or i.first 1 []) i.more r
