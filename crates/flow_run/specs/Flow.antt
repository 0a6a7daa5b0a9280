-- What `flow` reads and answers.
use Rattle.std.specs.Prelude.{◌≡◌, ◌⊎◌, ℕ, ◌<◌, ◌≤◌, false, List, [], ◌∷◌, get_or, None, Result, Ok, Err}
use Rattle.std.specs.List.{All}
use Rattle.machine_core.specs.Machine.{Machine}
use Rattle.machine_core.specs.Size.{machine_size}
use Rattle.catal.specs.declared.error.CatalError.{CatalError}
use Rattle.catal.specs.Catal.{IsCatal, Refused}
use Rattle.vlsi_base.specs.declared.kind.Kind.{Kind}
use Rattle.cell_model.specs.Library.{Library}
use Rattle.cell_model.specs.Covering.{needed, IsFirstMissing}
use Rattle.cell_lib.specs.declared.error.LibError.{LibError}
use Rattle.cell_lib.specs.Files.{with_library}
use Rattle.cell_lib.specs.Load.{refused}
use Rattle.cell_lib.specs.Cells.{sources, IsFirstRefused}
use Rattle.cell_lib.specs.Library.{IsCell, IsCellRefusal, IsLibraryOf, status_of}
use Rattle.boog_map.specs.Netlist.{has_registers, Covers}
use Rattle.machine_roots.specs.Roots.{roots, IsOverBudget}
use Rattle.tool_drive.specs.Size.{size_limit}
use Rattle.tool_drive.specs.declared.size.TheConstants.{MOST_SIZE}
use Rattle.boom_run.specs.Boom.{IsBudgetStatus}
use Rattle.flow_words.specs.declared.words.FlowCommand.{FlowCommand}
use Rattle.tool_drive.specs.declared.status.Status.{Status}
use Rattle.tool_drive.specs.declared.status.Status.TheVariants as status
use Rattle.tool_drive.specs.declared.tool.Product.{Product}
use Rattle.tool_drive.specs.declared.tool.Refusal.{Refusal}
use Rattle.tool_drive.specs.Plan.{Plan, Inputs, limited}
use Rattle.tool_drive.specs.Refusals.{OfFile}
use Rattle.flow_run.specs.Origin.{Origin, IsSourceFor, IsSourceRefusal}
use Rattle.flow_run.specs.Route.{rows_asked, route_of}
use Rattle.flow_run.specs.Drawn.{IsDrawnAs, IsStuckAs}

-- SOURCE, then CATAL, and then the files of the cells that CATAL uses
abbrev pub flow_plan : FlowCommand → Plan
flow_plan c = with_library (limited c.source ∷ []) c.library

-- The source is this machine, which isn't too large.
pub record IsSourceOf (c : FlowCommand) (source : List ℕ) (o : Origin) (m : Machine) : Type 0 where
  pub machine : IsSourceFor c source o m
  pub small : machine_size m ≤ MOST_SIZE

-- The source is this machine, which isn't too large, and CATAL and the files are this library, whose cells may be drawn, with tracks where
-- they are asked for.
pub record AreRead (c : FlowCommand) (source catal : List ℕ) (cells : List (List ℕ)) (o : Origin) (m : Machine) (l : Library) : Type 0 where
  pub machine : IsSourceFor c source o m
  pub small : machine_size m ≤ MOST_SIZE
  pub library : IsLibraryOf c.tracks catal cells l

-- no diagram of the machine's roots is over the budget
abbrev pub IsWithinNodes : Machine → ℕ → Type 0
IsWithinNodes m budget = All (λ r. IsOverBudget m budget r → ⊥) (roots m)

-- Source and library are read, the library has a usable cell of each kind that mapping needs, no diagram of the source's roots is over
-- the budget, and NAME.ap is a right layout of the source by this library, on which the report is what is printed.
pub record IsLaidOut (c : FlowCommand) (source catal : List ℕ) (cells : List (List ℕ)) (p : Product) : Type 0 where
  pub o : Origin
  pub m : Machine
  pub l : Library
  pub read : AreRead c source catal cells o m l
  pub covered : Covers l m
  pub within : IsWithinNodes m c.nodes
  pub drawn : IsDrawnAs c.out o m l c.fanout (route_of c) p

-- Why there is no source that can be laid out: its text and its ports, or else its size.
pub data IsNoSource (c : FlowCommand) (source : List ℕ) (s : Status) : Type 0 where
  no_text : OfFile c.source (IsSourceRefusal c source) s → IsNoSource c source s
  over_size : (o : Origin) (m : Machine) → IsSourceFor c source o m → MOST_SIZE < machine_size m → s ≡ size_limit m → IsNoSource c source s

-- What isn't read, in this order: the lines of CATAL and their number; the source; the first cell of the library that is none.
pub data IsUnread (c : FlowCommand) (source catal : List ℕ) (cells : List (List ℕ)) (s : Status) : Type 0 where
  no_list : (fault : CatalError) → Refused catal fault → s ≡ status_of (refused fault) → IsUnread c source catal cells s
  no_source : (names : List (List ℕ)) → IsCatal catal names → IsNoSource c source s → IsUnread c source catal cells s
  no_cell : (o : Origin) (m : Machine) (names : List (List ℕ)) (e : LibError) → IsSourceOf c source o m → IsCatal catal names
      → IsFirstRefused (IsCell c.tracks) (IsCellRefusal c.tracks) (sources names cells) e → s ≡ status_of e → IsUnread c source catal cells s

-- Why a source has no layout: something isn't read; or else a kind is the first of those that are asked for which no usable cell has;
-- or else a root is the first whose diagram is over the budget.
pub data IsFlowRefusal (c : FlowCommand) (source catal : List ℕ) (cells : List (List ℕ)) (s : Status) : Type 0 where
  unread : IsUnread c source catal cells s → IsFlowRefusal c source catal cells s
  uncovered : (o : Origin) (m : Machine) (l : Library) (k : Kind) → AreRead c source catal cells o m l
      → IsFirstMissing l.cells k (needed (has_registers m)) → s ≡ status.NoCover k → IsFlowRefusal c source catal cells s
  over_budget : (o : Origin) (m : Machine) (l : Library) → AreRead c source catal cells o m l → Covers l m → IsBudgetStatus m c.nodes s
      → IsFlowRefusal c source catal cells s

-- Source and library are read, the library has a usable cell of each kind that mapping needs, and no diagram is over the budget; but
-- over rows a net gets stuck, and NAME_part.ap shows it.
pub record IsStuck (c : FlowCommand) (source catal : List ℕ) (cells : List (List ℕ)) (r : Refusal) : Type 0 where
  pub no_tracks : c.tracks ≡ false
  pub o : Origin
  pub m : Machine
  pub l : Library
  pub read : AreRead c source catal cells o m l
  pub covered : Covers l m
  pub within : IsWithinNodes m c.nodes
  pub shown : IsStuckAs c.out o m l c.fanout (rows_asked c) r

-- the layout is written and the report is printed, or one of these refusals, or a net gets stuck
abbrev pub LaysOut : FlowCommand → List ℕ → List ℕ → List (List ℕ) → Result Product Refusal → Type 0
LaysOut c source catal cells (Ok p) = IsLaidOut c source catal cells p
LaysOut c source catal cells (Err r) =
    ((r.part ≡ None) × IsFlowRefusal c source catal cells r.status) ⊎ IsStuck c source catal cells r

abbrev pub flow_answers : FlowCommand → Inputs → Result Product Refusal → Type 0
flow_answers c i r = LaysOut c (get_or i.first 0 []) (get_or i.first 1 []) i.more r
