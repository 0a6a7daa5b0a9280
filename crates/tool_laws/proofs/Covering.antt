-- The words and the files decide what `boog` and `area` answer: tools that read a source in data flow and a library, and need usable cells of
-- some kinds.
use Rattle.std.proofs.Common.{◌≡◌, inl, ℕ, ◌-◌, ◌^◌, ◌<◌, ◌≤◌, min, Bool, false, List, [], get_or, refl, sym, ap, ◌∙◌, subst, arith}
use Rattle.std.specs.Prelude.{Result, Ok, Err}
use Rattle.vlsi_base.specs.Member.{In}
use Rattle.vlsi_base.specs.declared.fault.LimitKind.TheVariants.{Size}
use Rattle.vlsi_base.specs.declared.kind.Kind.{Kind}
use Rattle.machine_core.specs.Machine.{Machine}
use Rattle.machine_core.specs.Size.{machine_size}
use Rattle.vbe_io.specs.Text.{IsVbe, IsVbeRefusal}
use Rattle.vbe_io.specs.Laws.{NeverBoth, OneRefusal}
use Rattle.vbe_laws.specs.OneMachine.{MachinesWeighTheSame, MachinesHaveTheSameParts}
use Rattle.cell_model.specs.Covering.{HasCellOf, needed, IsFirstMissing}
use Rattle.cell_model.specs.Library.{Library}
use Rattle.cell_lib.specs.declared.error.LibError.{LibError}
use Rattle.cell_lib.specs.Library.{IsLibraryOf, IsRefusedLibrary, status_of}
use Rattle.boog_map.specs.Netlist.{has_registers}
use Rattle.boog_area.specs.Refused.{tree_kinds}
use Rattle.tool_drive.specs.declared.size.TheConstants.{MOST_SIZE}
use Rattle.tool_drive.specs.declared.status.Status.{Status}
use Rattle.tool_drive.specs.declared.status.Status.TheVariants as status
use Rattle.tool_drive.specs.declared.tool.Product.{Product}
use Rattle.tool_drive.specs.declared.tool.Refusal.{Refusal}
use Rattle.tool_drive.specs.Plan.{Inputs}
use Rattle.tool_drive.specs.Refusals.{OfFile}
use Rattle.tool_drive.specs.Size.{size_limit}
use Rattle.tool_drive.specs.Table.{status_of as answered}
use Rattle.boog_run.specs.declared.words.BoogCommand.{BoogCommand}
use Rattle.boog_run.specs.Boog as boog
use Rattle.area_run.specs.declared.words.AreaCommand.{AreaCommand}
use Rattle.area_run.specs.Area as area
use Rattle.flow_run.specs.OneLibrary.{LibraryIsNeverRefused, LibrariesCoverTheSame}
use Rattle.flow_run.specs.OneRefusal.{LibraryHasOneRefusal}
use Rattle.flow_run.proofs.Libraries.{registers_same}
use Rattle.flow_run.proofs.NeverRefused.{none_missing}
use Rattle.flow_run.proofs.OneStatus.{told_text, text_once, first_once}
use Rattle.flow_run.proofs.Runs.{runs_agree}
use Rattle.tool_laws.specs.OneStatus.{AreSameOrRings, BoogHasOneStatus, AreaHasOneStatus}

-- ---- what such a tool refuses, and what it accepts, where these kinds are needed

data IsUncovered (file source catal : List ℕ) (cells : List (List ℕ)) (kinds : Machine → List Kind) (s : Status) : Type 0 where
  by_library : (e : LibError) → IsRefusedLibrary false catal cells e → s ≡ status_of e → IsUncovered file source catal cells kinds s
  by_source : (l : Library) → IsLibraryOf false catal cells l → OfFile file (IsVbeRefusal source) s → IsUncovered file source catal cells kinds s
  by_size : (l : Library) (m : Machine) → IsLibraryOf false catal cells l → IsVbe source m → MOST_SIZE < machine_size m → s ≡ size_limit m
      → IsUncovered file source catal cells kinds s
  by_kind : (l : Library) (m : Machine) (k : Kind) → IsLibraryOf false catal cells l → IsVbe source m → machine_size m ≤ MOST_SIZE → IsFirstMissing l.cells k (kinds m)
      → s ≡ status.NoCover k → IsUncovered file source catal cells kinds s

record IsCovered (source catal : List ℕ) (cells : List (List ℕ)) (kinds : Machine → List Kind) : Type 0 where
  l : Library
  m : Machine
  library : IsLibraryOf false catal cells l
  machine : IsVbe source m
  small : machine_size m ≤ MOST_SIZE
  covered : (k : Kind) → In k (kinds m) → HasCellOf l.cells k

-- the machines of one text need the same kinds
abbrev NeedTheSame : (Machine → List Kind) → Type 0
NeedTheSame kinds = (source : List ℕ) (m k : Machine) → IsVbe source m → IsVbe source k → kinds m ≡ kinds k

module _ (never : NeverBoth) (once : OneRefusal) (weights : MachinesWeighTheSame) (no_libraries : LibraryIsNeverRefused) (libraries : LibraryHasOneRefusal) (cover : LibrariesCoverTheSame) where
  module _ (file source catal : List ℕ) (cells : List (List ℕ)) (kinds : Machine → List Kind) (alike : NeedTheSame kinds) where
    text_or_not : (m : Machine) (s : Status) → IsVbe source m → OfFile file (IsVbeRefusal source) s → ⊥
    text_or_not m s is h = let t = told_text file source s h in never source m t.error is t.is_refused

    large_or_not : (m k : Machine) → IsVbe source m → IsVbe source k → MOST_SIZE < machine_size m → machine_size k ≤ MOST_SIZE → ⊥
    large_or_not m k is of large small = let equal = weights source m k is of in omega (arith, equal, large, small)

    covered_or_not : (s : Status) → IsCovered source catal cells kinds → IsUncovered file source catal cells kinds s → ⊥
    covered_or_not s a (by_library e r is) = no_libraries false catal cells a.l e a.library r
    covered_or_not s a (by_source l library h) = text_or_not a.m s a.machine h
    covered_or_not s a (by_size l m library is large told) = large_or_not m a.m is a.machine large a.small
    covered_or_not s a (by_kind l m k library is small missing told) =
        let own : IsFirstMissing l.cells k (kinds a.m) = subst (λ (ks : List Kind). IsFirstMissing l.cells k ks) (alike source m a.m is a.machine) missing in
        none_missing l.cells k (kinds a.m) (λ j i. ((cover false false catal cells a.l l a.library library).cell j).0 (a.covered j i)) own

    uncovered_once : (s t : Status) → IsUncovered file source catal cells kinds s → IsUncovered file source catal cells kinds t → AreSameOrRings file s t
    uncovered_once s t (by_library d p is) (by_library e q also) = inl (is ∙ ap status_of (libraries false catal cells d e p q) ∙ sym also)
    uncovered_once s t (by_library d p is) (by_source l library h) = absurd (no_libraries false catal cells l d library p)
    uncovered_once s t (by_library d p is) (by_size l m library machine large also) = absurd (no_libraries false catal cells l d library p)
    uncovered_once s t (by_library d p is) (by_kind l m k library machine small missing also) = absurd (no_libraries false catal cells l d library p)
    uncovered_once s t (by_source l library h) (by_library e q also) = absurd (no_libraries false catal cells l e library q)
    uncovered_once s t (by_source l library h) (by_source k other g) = text_once once file source s t h g
    uncovered_once s t (by_source l library h) (by_size k m other machine large also) = absurd (text_or_not m s machine h)
    uncovered_once s t (by_source l library h) (by_kind k m i other machine small missing also) = absurd (text_or_not m s machine h)
    uncovered_once s t (by_size l m library machine large told) (by_library e q also) = absurd (no_libraries false catal cells l e library q)
    uncovered_once s t (by_size l m library machine large told) (by_source k other h) = absurd (text_or_not m t machine h)
    uncovered_once s t (by_size l m library is large told) (by_size k n other of more also) =
        inl (told ∙ ap (λ (size : ℕ). status.Limit (record { which = Size; reached = min size (2 ^ 64 - 1) })) (weights source m n is of) ∙ sym also)
    uncovered_once s t (by_size l m library is large told) (by_kind k n i other of small missing also) = absurd (large_or_not m n is of large small)
    uncovered_once s t (by_kind l m i library machine small missing told) (by_library e q also) = absurd (no_libraries false catal cells l e library q)
    uncovered_once s t (by_kind l m i library machine small missing told) (by_source k other h) = absurd (text_or_not m t machine h)
    uncovered_once s t (by_kind l m i library is small missing told) (by_size k n other of large also) = absurd (large_or_not n m of is large small)
    uncovered_once s t (by_kind l m i library is small missing told) (by_kind k n j other of little scarce also) =
        let own : IsFirstMissing k.cells j (kinds m) = subst (λ (ks : List Kind). IsFirstMissing k.cells j ks) (alike source n m of is) scarce in
        let there_too : IsFirstMissing l.cells j (kinds m) = ((cover false false catal cells k l other library).missing j (kinds m)).0 own in
        inl (told ∙ ap status.NoCover (first_once l.cells i j (kinds m) missing there_too) ∙ sym also)

  -- ---- `boog`

  module _ (parts : MachinesHaveTheSameParts) where
    boog_alike : NeedTheSame (λ m. needed (has_registers m))
    boog_alike source m k is of = ap (λ (b : Bool). needed b) (registers_same m k (parts source m k is of).registers)

    boog_covered : (c : BoogCommand) (source catal : List ℕ) (cells : List (List ℕ)) (p : Product) → boog.IsMapping c source catal cells p
        → IsCovered source catal cells (λ m. needed (has_registers m))
    boog_covered c source catal cells p a = record { l = a.l; m = a.m; library = a.library; machine = a.machine; small = a.small; covered = a.netlist.covered }

    boog_uncovered : (c : BoogCommand) (source catal : List ℕ) (cells : List (List ℕ)) (s : Status) → boog.IsBoogRefusal c source catal cells s
        → IsUncovered c.source source catal cells (λ m. needed (has_registers m)) s
    boog_uncovered c source catal cells s (boog.no_library e r is) = by_library e r is
    boog_uncovered c source catal cells s (boog.bad_source l library h) = by_source l library h
    boog_uncovered c source catal cells s (boog.no_netlist l m library machine (boog.too_large large is)) = by_size l m library machine large is
    boog_uncovered c source catal cells s (boog.no_netlist l m library machine (boog.no_cover small k missing is)) = by_kind l m k library machine small missing is

    boog_or_not : (c : BoogCommand) (source catal : List ℕ) (cells : List (List ℕ)) (p : Product) (s : Status) → boog.IsMapping c source catal cells p
        → boog.IsBoogRefusal c source catal cells s → ⊥
    boog_or_not c source catal cells p s a b =
        covered_or_not c.source source catal cells (λ m. needed (has_registers m)) boog_alike s (boog_covered c source catal cells p a) (boog_uncovered c source catal cells s b)

    boog_refused : (c : BoogCommand) (source catal : List ℕ) (cells : List (List ℕ)) (s t : Status) → boog.IsBoogRefusal c source catal cells s
        → boog.IsBoogRefusal c source catal cells t → AreSameOrRings c.source s t
    boog_refused c source catal cells s t a b =
        uncovered_once c.source source catal cells (λ m. needed (has_registers m)) boog_alike s t (boog_uncovered c source catal cells s a) (boog_uncovered c source catal cells t b)

    boog_once : (c : BoogCommand) (i : Inputs) (r q : Result Product Refusal) → boog.boog_answers c i r → boog.boog_answers c i q → AreSameOrRings c.source (answered r) (answered q)
    boog_once c i (Ok p) (Ok u) a b = inl refl
    boog_once c i (Ok p) (Err q) a b = absurd (boog_or_not c (get_or i.first 0 []) (get_or i.first 1 []) i.more p q.status a b.1)
    boog_once c i (Err r) (Ok p) a b = absurd (boog_or_not c (get_or i.first 0 []) (get_or i.first 1 []) i.more p r.status b a.1)
    boog_once c i (Err r) (Err q) a b = boog_refused c (get_or i.first 0 []) (get_or i.first 1 []) i.more r.status q.status a.1 b.1

    pub boog_has_one_status : BoogHasOneStatus
    boog_has_one_status c = runs_agree (boog.boog_plan c) (boog.boog_answers c) (AreSameOrRings c.source) (λ s t e. inl e) (boog_once c)

  -- ---- `area`

  area_alike : NeedTheSame (λ m. tree_kinds)
  area_alike source m k is of = refl

  area_covered : (c : AreaCommand) (source catal : List ℕ) (cells : List (List ℕ)) (p : Product) → area.IsMeasured c source catal cells p → IsCovered source catal cells (λ m. tree_kinds)
  area_covered c source catal cells p a = record { l = a.l; m = a.m; library = a.library; machine = a.machine; small = a.small; covered = a.covered }

  area_uncovered : (c : AreaCommand) (source catal : List ℕ) (cells : List (List ℕ)) (s : Status) → area.IsAreaRefusal c source catal cells s
      → IsUncovered c.source source catal cells (λ m. tree_kinds) s
  area_uncovered c source catal cells s (area.no_library e r is) = by_library e r is
  area_uncovered c source catal cells s (area.bad_source l library h) = by_source l library h
  area_uncovered c source catal cells s (area.no_cover l m library machine (area.too_large large is)) = by_size l m library machine large is
  area_uncovered c source catal cells s (area.no_cover l m library machine (area.no_cell small k missing is)) = by_kind l m k library machine small missing is

  area_or_not : (c : AreaCommand) (source catal : List ℕ) (cells : List (List ℕ)) (p : Product) (s : Status) → area.IsMeasured c source catal cells p
      → area.IsAreaRefusal c source catal cells s → ⊥
  area_or_not c source catal cells p s a b =
      covered_or_not c.source source catal cells (λ m. tree_kinds) area_alike s (area_covered c source catal cells p a) (area_uncovered c source catal cells s b)

  area_refused : (c : AreaCommand) (source catal : List ℕ) (cells : List (List ℕ)) (s t : Status) → area.IsAreaRefusal c source catal cells s
      → area.IsAreaRefusal c source catal cells t → AreSameOrRings c.source s t
  area_refused c source catal cells s t a b =
      uncovered_once c.source source catal cells (λ m. tree_kinds) area_alike s t (area_uncovered c source catal cells s a) (area_uncovered c source catal cells t b)

  area_once : (c : AreaCommand) (i : Inputs) (r q : Result Product Refusal) → area.area_answers c i r → area.area_answers c i q → AreSameOrRings c.source (answered r) (answered q)
  area_once c i (Ok p) (Ok u) a b = inl refl
  area_once c i (Ok p) (Err q) a b = absurd (area_or_not c (get_or i.first 0 []) (get_or i.first 1 []) i.more p q.status a b.1)
  area_once c i (Err r) (Ok p) a b = absurd (area_or_not c (get_or i.first 0 []) (get_or i.first 1 []) i.more p r.status b a.1)
  area_once c i (Err r) (Err q) a b = area_refused c (get_or i.first 0 []) (get_or i.first 1 []) i.more r.status q.status a.1 b.1

  pub area_has_one_status : AreaHasOneStatus
  area_has_one_status c = runs_agree (area.area_plan c) (area.area_answers c) (AreSameOrRings c.source) (λ s t e. inl e) (area_once c)
