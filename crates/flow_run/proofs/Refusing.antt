-- From the refusals of readers and of mapping to the tool's.
use Rattle.std.proofs.Common.{◌≡◌, ℕ, ◌<◌, false, List, None, Err, inl, inr, sym, subst, refl}
use Rattle.vlsi_base.specs.declared.fault.ReadError.{ReadError}
use Rattle.machine_core.specs.Machine.{Machine}
use Rattle.machine_core.specs.Size.{machine_size}
use Rattle.catal.specs.declared.error.CatalError.{CatalError}
use Rattle.catal.specs.declared.error.CatalError.TheVariants as catal
use Rattle.catal.specs.Catal.{IsCatal, IsCatalRefusal}
use Rattle.cell_model.specs.Library.{Library}
use Rattle.cell_lib.specs.declared.error.LibError.{LibError}
use Rattle.cell_lib.specs.declared.error.LibError.TheVariants as errors
use Rattle.cell_lib.specs.Load.{refused}
use Rattle.cell_lib.specs.Cells.{sources, IsFirstRefused, OrMemory}
use Rattle.cell_lib.specs.Library.{IsCell, IsCellRefusal, IsRefusedList, bad_cell, status_of}
use Rattle.tool_drive.specs.Size.{size_limit}
use Rattle.boog_map.specs.Netlist.{Covers}
use Rattle.boom_run.specs.Boom.{IsBudgetStatus}
use Rattle.tool_drive.specs.declared.size.TheConstants.{MOST_SIZE}
use Rattle.flow_words.specs.declared.words.FlowCommand.{FlowCommand}
use Rattle.tool_drive.specs.declared.status.Status.{Status}
use Rattle.tool_drive.specs.declared.status.Status.TheVariants as status
use Rattle.std.specs.Prelude.{Result, Ok, IfOk, IfErr}
use Rattle.tool_drive.specs.declared.tool.Product.{Product}
use Rattle.tool_drive.specs.declared.tool.Refusal.{Refusal}
use Rattle.tool_drive.specs.Table.{IsJudged, IsFair, refusal}
use Rattle.tool_drive.specs.Refusals.{MemoryOr, OfFile, of_file, memory_then, fair_then, judged as judged_by}
use Rattle.flow_run.specs.Origin.{Origin, IsSourceFor, IsSourceRefusal}
use Rattle.flow_run.specs.Flow.{IsSourceOf, AreRead, IsNoSource, no_list, no_text, over_size, IsUnread, no_source, no_cell, IsFlowRefusal, unread, uncovered, over_budget, IsWithinNodes, LaysOut}
use Rattle.flow_run.specs.Route.{rows_asked, route_of}
use Rattle.flow_run.specs.Drawn.{IsDrawnAs, IsStuckAs}
use Rattle.flow_run.specs.Mapped.{IsMissingIn}
use Rattle.flow_run.proofs.Judging.{fair_list, fair_library}

-- ---- readers

list_at : (c : FlowCommand) (source list : List ℕ) (cells : List (List ℕ)) (e : CatalError) → IsCatalRefusal list e
    → MemoryOr (status_of (refused e)) (IsUnread c source list cells (status_of (refused e)))
list_at c source list cells catal.Memory h = tt
list_at c source list cells (catal.BadLine line) h = no_list (catal.BadLine line) h refl
list_at c source list cells (catal.Limit l) h = no_list (catal.Limit l) h refl

pub by_list : (c : FlowCommand) (source list : List ℕ) (cells : List (List ℕ)) (e : LibError) → IsRefusedList list e
    → MemoryOr (status_of e) (IsUnread c source list cells (status_of e))
by_list c source list cells e h =
    subst (λ (x : LibError). MemoryOr (status_of x) (IsUnread c source list cells (status_of x))) (sym h.told) (list_at c source list cells h.fault h.refusal)

pub by_text : (c : FlowCommand) (source : List ℕ) (e : ReadError) (s : Status) → IsSourceRefusal c source e → MemoryOr s (OfFile c.source (λ x. x ≡ e) s)
    → MemoryOr s (IsNoSource c source s)
by_text c source e s h k =
    memory_then s (OfFile c.source (IsSourceRefusal c source) s) (IsNoSource c source s) (λ o. no_text o) (of_file c.source (IsSourceRefusal c source) e h s k)

pub by_size : (c : FlowCommand) (source : List ℕ) (o : Origin) (m : Machine) (s : Status) → IsSourceFor c source o m → MOST_SIZE < machine_size m → s ≡ size_limit m
    → MemoryOr s (IsNoSource c source s)
by_size c source o m s machine big is = subst (λ (t : Status). MemoryOr t (IsNoSource c source t)) (sym is) (over_size o m machine big refl)

cell_at : (c : FlowCommand) (source list : List ℕ) (cells names : List (List ℕ)) (o : Origin) (m : Machine) (e : LibError) → IsSourceOf c source o m → IsCatal list names
    → IsFirstRefused (IsCell c.tracks) (IsCellRefusal c.tracks) (sources names cells) e → IsUnread c source list cells (status_of e)
cell_at c source list cells names o m e h uses first = no_cell o m names e h uses first refl

pub by_cell : (c : FlowCommand) (source list : List ℕ) (cells names : List (List ℕ)) (o : Origin) (m : Machine) (e : LibError) → IsSourceOf c source o m → IsCatal list names
    → OrMemory (IsFirstRefused (IsCell c.tracks) (IsCellRefusal c.tracks) (sources names cells)) e → MemoryOr (status_of e) (IsUnread c source list cells (status_of e))
by_cell c source list cells names o m errors.Memory h uses k = tt
by_cell c source list cells names o m (errors.Limit l) h uses k = cell_at c source list cells names o m (errors.Limit l) h uses k
by_cell c source list cells names o m (errors.BadCatal line) h uses k = cell_at c source list cells names o m (errors.BadCatal line) h uses k
by_cell c source list cells names o m (errors.BadCell cell cause) h uses k = cell_at c source list cells names o m (errors.BadCell cell cause) h uses k
by_cell c source list cells names o m (errors.Missing name) h uses k = absurd (fair_library c.tracks list cells (errors.Missing name) (Unit {0}) (bad_cell names uses k) tt)
by_cell c source list cells names o m (errors.ReadFault name) h uses k = absurd (fair_library c.tracks list cells (errors.ReadFault name) (Unit {0}) (bad_cell names uses k) tt)

-- ---- each refusal has a status of judging

fair_text : (file : List ℕ) (R : ReadError → Type 0) (s : Status) (P : Type 0) → OfFile file R s → P → IsFair s None P
fair_text file R (status.Source name fault) P o p = p
fair_text file R (status.Limit limit) P o p = p
fair_text file R _ P o p = absurd o

fair_source : (c : FlowCommand) (source : List ℕ) (s : Status) (P : Type 0) → IsNoSource c source s → P → IsFair s None P
fair_source c source s P (no_text o) p = fair_text c.source (IsSourceRefusal c source) s P o p
fair_source c source s P (over_size o m machine big is) p = subst (λ (t : Status). IsFair t None P) (sym is) p

fair : (c : FlowCommand) (source list : List ℕ) (cells : List (List ℕ)) (s : Status) (P : Type 0) → IsFlowRefusal c source list cells s → P → IsFair s None P
fair c source list cells s P (unread (no_list fault r is)) p = subst (λ (t : Status). IsFair t None P) (sym is) (fair_list fault P p)
fair c source list cells s P (unread (no_source names uses r)) p = fair_source c source s P r p
fair c source list cells s P (unread (no_cell o m names e h uses first is)) p =
    subst (λ (t : Status). IsFair t None P) (sym is) (fair_library c.tracks list cells e P (bad_cell names uses first) p)
fair c source list cells s P (uncovered o m l k read missing is) p = subst (λ (t : Status). IsFair t None P) (sym is) p
fair c source list cells s P (over_budget o m l read covered b) p = subst (λ (t : Status). IsFair t None P) (sym b.is) p

-- ---- to the tool's answer

judged : (c : FlowCommand) (source list : List ℕ) (cells : List (List ℕ)) (s : Status) → MemoryOr s (IsFlowRefusal c source list cells s)
    → IsJudged (LaysOut c source list cells) (Err (refusal s None))
judged c source list cells s h = judged_by (LaysOut c source list cells) (λ t. IsFlowRefusal c source list cells t) told s h where
  told : (t : Status) → IsFlowRefusal c source list cells t → IsFair t None (LaysOut c source list cells (Err (refusal t None)))
  told t k = fair c source list cells t (LaysOut c source list cells (Err (refusal t None))) k (inl (refl, k))

pub by_unread : (c : FlowCommand) (source list : List ℕ) (cells : List (List ℕ)) (s : Status) → MemoryOr s (IsUnread c source list cells s)
    → IsJudged (LaysOut c source list cells) (Err (refusal s None))
by_unread c source list cells s h =
    judged c source list cells s (memory_then s (IsUnread c source list cells s) (IsFlowRefusal c source list cells s) (λ u. unread u) h)

pub by_kinds : (c : FlowCommand) (source list : List ℕ) (cells : List (List ℕ)) (o : Origin) (m : Machine) (l : Library) (s : Status)
    → AreRead c source list cells o m l
    → IsMissingIn l m s → IsJudged (LaysOut c source list cells) (Err (refusal s None))
by_kinds c source list cells o m l s read h =
    subst (λ (t : Status). IsJudged (LaysOut c source list cells) (Err (refusal t None))) (sym h.is) (inl (refl, uncovered o m l h.kind read h.first refl))

pub by_budget : (c : FlowCommand) (source list : List ℕ) (cells : List (List ℕ)) (o : Origin) (m : Machine) (l : Library) (s : Status)
    → AreRead c source list cells o m l
    → Covers l m → MemoryOr s (IsBudgetStatus m c.nodes s) → IsJudged (LaysOut c source list cells) (Err (refusal s None))
by_budget c source list cells o m l s read covered h =
    judged c source list cells s (memory_then s (IsBudgetStatus m c.nodes s) (IsFlowRefusal c source list cells s) (λ b. over_budget o m l read covered b) h)

-- a net that gets stuck is such an answer
pub by_stuck : (c : FlowCommand) (source list : List ℕ) (cells : List (List ℕ)) (o : Origin) (m : Machine) (l : Library) (r : Refusal)
    → AreRead c source list cells o m l → Covers l m → IsWithinNodes m c.nodes
    → IsFair r.status r.part ((c.tracks ≡ false) × IsStuckAs c.out o m l c.fanout (rows_asked c) r) → IsJudged (LaysOut c source list cells) (Err r)
by_stuck c source list cells o m l r read covered within h =
    fair_then r.status r.part ((c.tracks ≡ false) × IsStuckAs c.out o m l c.fanout (rows_asked c) r) (LaysOut c source list cells (Err r))
    (λ k. inr (record { no_tracks = k.0; o = o; m = m; l = l; read = read; covered = covered; within = within; shown = k.1 })) h

-- and so is a layout
pub judged_product : (c : FlowCommand) (source list : List ℕ) (cells : List (List ℕ)) (o : Origin) (m : Machine) (l : Library)
    → AreRead c source list cells o m l → Covers l m → IsWithinNodes m c.nodes → (r : Result Product Refusal)
    → IfOk r (λ p. IsDrawnAs c.out o m l c.fanout (route_of c) p)
    → IfErr r (λ e. IsFair e.status e.part ((c.tracks ≡ false) × IsStuckAs c.out o m l c.fanout (rows_asked c) e))
    → IsJudged (LaysOut c source list cells) r
judged_product c source list cells o m l read covered within (Ok p) drawn stuck =
    record { o = o; m = m; l = l; read = read; covered = covered; within = within; drawn = drawn }
judged_product c source list cells o m l read covered within (Err e) drawn stuck = by_stuck c source list cells o m l e read covered within stuck
