-- The words and the files decide the status.
use Rattle.std.proofs.Common.{◌≡◌, ◌⊎◌, inl, inr, ℕ, ◌+◌, ◌-◌, ◌^◌, ◌≤◌, min, Bool, true, false, List, [], ◌∷◌, ◌++◌, map, get_or, refl, sym, ap, ◌∙◌, subst, arith}
use Rattle.std.specs.Prelude.{Result, Ok, Err}
use Rattle.std.specs.List.{AllZip}
use Rattle.vlsi_base.specs.Member.{In, here, there}
use Rattle.vlsi_base.specs.declared.name.Name.{Name}
use Rattle.vlsi_base.specs.declared.kind.Kind.{Kind}
use Rattle.vlsi_base.specs.declared.fault.LimitKind.TheVariants.{Size}
use Rattle.vlsi_base.specs.declared.fault.ReadError.TheVariants as reading
use Rattle.bool_expr.specs.Expression.{Expression, variables}
use Rattle.bool_expr.specs.Support.{first_meetings}
use Rattle.bdd_core.specs.Truths.{IsOver as IsLarge}
use Rattle.machine_core.specs.Machine.{Machine}
use Rattle.machine_core.specs.Size.{machine_size}
use Rattle.machine_walk.specs.Expansion.{subexpressions}
use Rattle.machine_roots.specs.Roots.{Root, roots, list_by, IsOverBudget, IsFirstOver}
use Rattle.vbe_io.specs.Text.{IsVbeRefusal, Refused as RefusedText}
use Rattle.vbe_io.specs.Laws.{NeverBoth, IsRingFault, OneRefusal as OneTextRefusal}
use Rattle.vbe_laws.specs.OneMachine.{MachinesWeighTheSame, MachinesHaveTheSameParts}
use Rattle.vbe_roots.specs.Law.{HaveOneExpansion, MachinesHaveTheSameRoots}
use Rattle.fsm_io.specs.Text.{IsFsmRefusal, Refused as RefusedStates}
use Rattle.fsm_io.specs.Laws.{NeverBoth as NeverBothStates, OneRefusal as OneStatesRefusal}
use Rattle.syf_run.specs.Syf.{style_of}
use Rattle.syf_run.specs.Laws.{EncodedIsOne}
use Rattle.catal.specs.declared.error.CatalError.{CatalError}
use Rattle.catal.specs.Laws.{NeverBoth as NeverBothLists, OneRefusal as OneListRefusal}
use Rattle.cell_model.specs.Cell.{Cell}
use Rattle.cell_model.specs.Covering.{needed, IsFirstMissing, first, later}
use Rattle.cell_model.specs.Library.{Library}
use Rattle.cell_model.proofs.Members.{All-In}
use Rattle.cell_lib.specs.Load.{refused}
use Rattle.cell_lib.specs.Library.{IsLibraryOf, bad_cell, status_of}
use Rattle.boog_map.specs.Netlist.{has_registers}
use Rattle.flow_words.specs.declared.words.FlowCommand.{FlowCommand}
use Rattle.tool_drive.specs.declared.size.TheConstants.{MOST_SIZE}
use Rattle.tool_drive.specs.declared.status.Status.{Status}
use Rattle.tool_drive.specs.declared.status.Status.TheVariants as status
use Rattle.tool_drive.specs.declared.tool.Product.{Product}
use Rattle.tool_drive.specs.declared.tool.Refusal.{Refusal}
use Rattle.tool_drive.specs.Refusals.{OfFile}
use Rattle.tool_drive.specs.Plan.{Inputs}
use Rattle.tool_drive.specs.Table.{status_of as answered}
use Rattle.flow_run.specs.Origin.{Origin, equations, states, is_fsm, IsOf, IsSourceFor, refusal_by}
use Rattle.flow_run.specs.Flow.{AreRead, IsNoSource, no_list, no_text, over_size, IsUnread, no_source, no_cell, unread, uncovered, over_budget, flow_plan, flow_answers}
use Rattle.flow_run.specs.Laws.{WhatIsReadIsNeverRefused}
use Rattle.flow_run.specs.OneLibrary.{LibraryIsNeverRefused, LibrariesCoverTheSame, CoveredLacksNothing}
use Rattle.flow_run.specs.OneRefusal.{LibraryHasOneRefusal}
use Rattle.flow_run.specs.OneStatus.{NamesSourceRing, AreRings, FilesHaveOneRefusal, HaveOneStatus, same, rings, ends, OneStatus}
use Rattle.flow_run.proofs.Libraries.{registers_same}
use Rattle.flow_run.proofs.NeverRefused.{input_never, size_same, lacks_nothing}
use Rattle.flow_run.proofs.Runs.{as_status, Told, runs_agree}

-- ---- the first root over a budget

over_moves : (m k : Machine) (budget : ℕ) (r q : Root) → HaveOneExpansion m k r q → IsOverBudget m budget r → IsOverBudget k budget q
over_moves m k budget r q one h = subst (λ (x : Expression). IsLarge (map (list_by (first_meetings (variables x))) (subexpressions x)) budget) one.1 h

over_back : (m k : Machine) (budget : ℕ) (r q : Root) → HaveOneExpansion m k r q → IsOverBudget k budget q → IsOverBudget m budget r
over_back m k budget r q one h = subst (λ (x : Expression). IsLarge (map (list_by (first_meetings (variables x))) (subexpressions x)) budget) (sym one.1) h

-- none of these is over it
abbrev NoneOver : Machine → ℕ → List Root → Type 0
NoneOver m budget rs = (r : Root) → In r rs → IsOverBudget m budget r → ⊥

first_named : (m k : Machine) (budget : ℕ) (rs qs us vs : List Root) (r q : Root) → AllZip (HaveOneExpansion m k) (rs ++ r ∷ us) (qs ++ q ∷ vs)
    → NoneOver m budget rs → NoneOver k budget qs → IsOverBudget m budget r → IsOverBudget k budget q → r.name ≡ q.name
first_named m k budget [] [] us vs r q zip none nor over too = zip.0.0
first_named m k budget [] (y ∷ qs) us vs r q zip none nor over too = absurd (nor y here (over_moves m k budget r y zip.0 over))
first_named m k budget (x ∷ rs) [] us vs r q zip none nor over too = absurd (none x here (over_back m k budget x q zip.0 too))
first_named m k budget (x ∷ rs) (y ∷ qs) us vs r q zip none nor over too =
    first_named m k budget rs qs us vs r q zip.1 (λ p i. none p (there i)) (λ p i. nor p (there i)) over too

pub one_first : (m k : Machine) (budget : ℕ) (a b : Name) → AllZip (HaveOneExpansion m k) (roots m) (roots k) → IsFirstOver m budget a → IsFirstOver k budget b → a ≡ b
one_first m k budget a b zip p q =
    let aligned : AllZip (HaveOneExpansion m k) (p.before ++ p.root ∷ p.after) (q.before ++ q.root ∷ q.after) =
    subst (λ (rs : List Root). AllZip (HaveOneExpansion m k) rs (q.before ++ q.root ∷ q.after)) p.all (subst (λ (qs : List Root). AllZip (HaveOneExpansion m k) (roots m) qs) q.all zip) in
    p.named
    ∙ first_named m k budget p.before q.before p.after q.after p.root q.root aligned (All-In (λ (r : Root). IsOverBudget m budget r → ⊥) p.before p.first)
    (All-In (λ (r : Root). IsOverBudget k budget r → ⊥) q.before q.first) p.over q.over
    ∙ sym q.named

-- a machine has its own roots
own_roots : (m : Machine) (rs : List Root) → AllZip (HaveOneExpansion m m) rs rs
own_roots m [] = tt
own_roots m (r ∷ rs) = ((refl, refl), own_roots m rs)

-- ---- the first kind that is missing

pub first_once : (cells : List Cell) (k j : Kind) (kinds : List Kind) → IsFirstMissing cells k kinds → IsFirstMissing cells j kinds → k ≡ j
first_once cells k j _ (first a) (first b) = refl
first_once cells k j _ (first a) (later has rest) = absurd (a has)
first_once cells k j _ (later has rest) (first b) = absurd (b has)
first_once cells k j _ (later {ks = kinds} has rest) (later has_too more) = first_once cells k j kinds rest more

-- two libraries of the same files lack the same kind first
pub one_kind : LibrariesCoverTheSame → (tracks : Bool) (catal : List ℕ) (cells : List (List ℕ)) (l own : Library) → IsLibraryOf tracks catal cells l → IsLibraryOf tracks catal cells own
    → (b d : Bool) → b ≡ d → (k j : Kind) → IsFirstMissing l.cells k (needed b) → IsFirstMissing own.cells j (needed d) → k ≡ j
one_kind cover tracks catal cells l own library other b d same_form k j missing scarce =
    let there_too : IsFirstMissing own.cells j (needed b) = subst (λ (x : Bool). IsFirstMissing own.cells j (needed x)) (sym same_form) scarce in
    first_once l.cells k j (needed b) missing (((cover tracks tracks catal cells own l other library).missing j (needed b)).0 there_too)

-- ---- sources

pub told_text : (file source : List ℕ) (s : Status) → OfFile file (IsVbeRefusal source) s → Told file (RefusedText source) s
told_text file source (status.Source name fault) h = record { error = reading.Input fault; is_refused = h.1; is = ap (λ (n : List ℕ). status.Source n fault) h.0 }
told_text file source (status.Limit l) h = record { error = reading.Limit l; is_refused = h; is = refl }
told_text file source _ h = absurd h

pub told_states : (file source : List ℕ) (s : Status) → OfFile file (IsFsmRefusal source) s → Told file (RefusedStates source) s
told_states file source (status.Source name fault) h = record { error = reading.Input fault; is_refused = h.1; is = ap (λ (n : List ℕ). status.Source n fault) h.0 }
told_states file source (status.Limit l) h = record { error = reading.Limit l; is_refused = h; is = refl }
told_states file source _ h = absurd h

-- the same status, or two that name rings
abbrev Agree : FlowCommand → Status → Status → Type 0
Agree c s t = (s ≡ t) ⊎ AreRings c s t

-- the same status, or two that name a ring of the text
pub text_once : OneTextRefusal → (file source : List ℕ) (s t : Status) → OfFile file (IsVbeRefusal source) s → OfFile file (IsVbeRefusal source) t
    → (s ≡ t) ⊎ (NamesSourceRing file s × NamesSourceRing file t)
text_once text file source s t h g = by (text source p.error q.error p.is_refused q.is_refused) where
  p : Told file (RefusedText source) s
  p = told_text file source s h

  q : Told file (RefusedText source) t
  q = told_text file source t g

  by : (p.error ≡ q.error) ⊎ (IsRingFault p.error × IsRingFault q.error) → (s ≡ t) ⊎ (NamesSourceRing file s × NamesSourceRing file t)
  by (inl e) = inl (p.is ∙ ap (as_status file) e ∙ sym q.is)
  by (inr e) = inr ((e.0.0, e.0.1, p.is ∙ ap (as_status file) e.0.2), (e.1.0, e.1.1, q.is ∙ ap (as_status file) e.1.2))

pub states_once : OneStatesRefusal → (file source : List ℕ) (s t : Status) → OfFile file (IsFsmRefusal source) s → OfFile file (IsFsmRefusal source) t → s ≡ t
states_once machine file source s t h g =
    let p = told_states file source s h in
    let q = told_states file source t g in
    p.is ∙ ap (as_status file) (machine source p.error q.error p.is_refused q.is_refused) ∙ sym q.is

module _ (text : OneTextRefusal) (machine : OneStatesRefusal) where
  input_once : (b : Bool) (c : FlowCommand) (source : List ℕ) (s t : Status) → is_fsm c ≡ b → OfFile c.source (refusal_by b source) s
      → OfFile c.source (refusal_by b source) t → Agree c s t
  input_once false c source s t form h g = elim (text_once text c.source source s t h g) [
    | inl e ↦ inl e
    | inr two ↦ inr (record { equations = form; first = two.0; second = two.1 })
  ]
  input_once true c source s t form h g = inl (states_once machine c.source source s t h g)

module _ (parts : MachinesHaveTheSameParts) (one : EncodedIsOne) where
  has_same : (b : Bool) (c : FlowCommand) (source : List ℕ) (o x : Origin) (m k : Machine) → IsOf b c source o m → IsOf b c source x k → has_registers m ≡ has_registers k
  has_same false c source equations equations m k h g = registers_same m k (parts source m k h g).registers
  has_same false c source equations (states f i) m k h g = absurd g
  has_same false c source (states f i) x m k h g = absurd h
  has_same true c source (states f i) (states g j) m k h q = ap has_registers (one source (style_of c.encoding c.seed) f g i j m k h q)
  has_same true c source (states f i) equations m k h g = absurd g
  has_same true c source equations x m k h g = absurd h

module _ (diagrams : MachinesHaveTheSameRoots) (one : EncodedIsOne) where
  roots_same : (b : Bool) (c : FlowCommand) (source : List ℕ) (o x : Origin) (m k : Machine) → IsOf b c source o m → IsOf b c source x k
      → AllZip (HaveOneExpansion m k) (roots m) (roots k)
  roots_same false c source equations equations m k h g = diagrams source m k h g
  roots_same false c source equations (states f i) m k h g = absurd g
  roots_same false c source (states f i) x m k h g = absurd h
  roots_same true c source (states f i) (states g j) m k h q =
      subst (λ (n : Machine). AllZip (HaveOneExpansion m n) (roots m) (roots n)) (one source (style_of c.encoding c.seed) f g i j m k h q) (own_roots m (roots m))
  roots_same true c source (states f i) equations m k h g = absurd g
  roots_same true c source equations x m k h g = absurd h

-- ---- refusals

module _ (no_lists : NeverBothLists) (no_texts : NeverBoth) (no_machines : NeverBothStates) (lists : OneListRefusal) (texts : OneTextRefusal) (machines : OneStatesRefusal)
    (weights : MachinesWeighTheSame) (one : EncodedIsOne) where
  source_or_not : (c : FlowCommand) (source : List ℕ) (o : Origin) (m : Machine) (s : Status) → IsSourceFor c source o m → machine_size m ≤ MOST_SIZE → IsNoSource c source s → ⊥
  source_or_not c source o m s is small (no_text h) = input_never no_texts no_machines (is_fsm c) c source o m is s h
  source_or_not c source o m s is small (over_size x k machine over told) =
      let equal = size_same weights one (is_fsm c) c source o x m k is machine in
      omega (arith, equal, small, over)

  source_once : (c : FlowCommand) (source : List ℕ) (s t : Status) → IsNoSource c source s → IsNoSource c source t → Agree c s t
  source_once c source s t (no_text h) (no_text g) = input_once texts machines (is_fsm c) c source s t refl h g
  source_once c source s t (no_text h) (over_size o m machine over is) = absurd (input_never no_texts no_machines (is_fsm c) c source o m machine s h)
  source_once c source s t (over_size o m machine over is) (no_text h) = absurd (input_never no_texts no_machines (is_fsm c) c source o m machine t h)
  source_once c source s t (over_size o m machine over is) (over_size x k other more also) =
      let equal = size_same weights one (is_fsm c) c source o x m k machine other in
      inl (is ∙ ap (λ (n : ℕ). status.Limit (record { which = Size; reached = min n (2 ^ 64 - 1) })) equal ∙ sym also)

  module _ (libraries : LibraryHasOneRefusal) (no_libraries : LibraryIsNeverRefused) where
    read_or_not : (c : FlowCommand) (source catal : List ℕ) (cells : List (List ℕ)) (o : Origin) (m : Machine) (l : Library) (s : Status)
        → AreRead c source catal cells o m l → IsUnread c source catal cells s → ⊥
    read_or_not c source catal cells o m l s read (no_list fault r is) = no_lists catal read.library.names fault read.library.uses r
    read_or_not c source catal cells o m l s read (no_source names uses h) = source_or_not c source o m s read.machine read.small h
    read_or_not c source catal cells o m l s read (no_cell x k names e machine uses r is) = no_libraries c.tracks catal cells l e read.library (bad_cell names uses r)

    unread_once : (c : FlowCommand) (source catal : List ℕ) (cells : List (List ℕ)) (s t : Status) → IsUnread c source catal cells s → IsUnread c source catal cells t → Agree c s t
    unread_once c source catal cells s t (no_list f r is) (no_list g q also) = inl (is ∙ ap (λ (e : CatalError). status_of (refused e)) (lists catal f g r q) ∙ sym also)
    unread_once c source catal cells s t (no_list f r is) (no_source names uses h) = absurd (no_lists catal names f uses r)
    unread_once c source catal cells s t (no_list f r is) (no_cell o m names e machine uses q also) = absurd (no_lists catal names f uses r)
    unread_once c source catal cells s t (no_source names uses h) (no_list f r is) = absurd (no_lists catal names f uses r)
    unread_once c source catal cells s t (no_source names uses h) (no_source others so_uses g) = source_once c source s t h g
    unread_once c source catal cells s t (no_source names uses h) (no_cell o m others e machine so_uses r is) =
        absurd (source_or_not c source o m s machine.machine machine.small h)
    unread_once c source catal cells s t (no_cell o m names e machine uses r is) (no_list f q also) = absurd (no_lists catal names f uses q)
    unread_once c source catal cells s t (no_cell o m names e machine uses r is) (no_source others so_uses h) =
        absurd (source_or_not c source o m t machine.machine machine.small h)
    unread_once c source catal cells s t (no_cell o m names e machine uses r is) (no_cell x k others f other so_uses q also) =
        inl (is ∙ ap status_of (libraries c.tracks catal cells e f (bad_cell names uses r) (bad_cell others so_uses q)) ∙ sym also)

    module _ (parts : MachinesHaveTheSameParts) (diagrams : MachinesHaveTheSameRoots) (cover : LibrariesCoverTheSame) (lacks : CoveredLacksNothing) where
      kinds_once : (c : FlowCommand) (source catal : List ℕ) (cells : List (List ℕ)) (o x : Origin) (m n : Machine) (l own : Library) (k j : Kind)
          → AreRead c source catal cells o m l → AreRead c source catal cells x n own → IsFirstMissing l.cells k (needed (has_registers m))
          → IsFirstMissing own.cells j (needed (has_registers n)) → k ≡ j
      kinds_once c source catal cells o x m n l own k j read others missing scarce =
          one_kind cover c.tracks catal cells l own read.library others.library (has_registers m) (has_registers n)
          (has_same parts one (is_fsm c) c source o x m n read.machine others.machine) k j missing scarce

      pub files_once : FilesHaveOneRefusal
      files_once c source catal cells s t (unread h) (unread g) = unread_once c source catal cells s t h g
      files_once c source catal cells s t (unread h) (uncovered o m l k read missing is) = absurd (read_or_not c source catal cells o m l s read h)
      files_once c source catal cells s t (unread h) (over_budget o m l read covered b) = absurd (read_or_not c source catal cells o m l s read h)
      files_once c source catal cells s t (uncovered o m l k read missing is) (unread h) = absurd (read_or_not c source catal cells o m l t read h)
      files_once c source catal cells s t (uncovered o m l k read missing is) (uncovered x n own j others scarce also) =
          inl (is ∙ ap status.NoCover (kinds_once c source catal cells o x m n l own k j read others missing scarce) ∙ sym also)
      files_once c source catal cells s t (uncovered o m l k read missing is) (over_budget x n own others covered b) =
          absurd (lacks_nothing one cover lacks (is_fsm c) c source catal cells own l others.library read.library x o n m others.machine read.machine covered k missing)
      files_once c source catal cells s t (over_budget o m l read covered b) (unread h) = absurd (read_or_not c source catal cells o m l t read h)
      files_once c source catal cells s t (over_budget x n own others covered b) (uncovered o m l k read missing is) =
          absurd (lacks_nothing one cover lacks (is_fsm c) c source catal cells own l others.library read.library x o n m others.machine read.machine covered k missing)
      files_once c source catal cells s t (over_budget o m l read covered b) (over_budget x n own others so_covered d) =
          let zip = roots_same diagrams one (is_fsm c) c source o x m n read.machine others.machine in
          inl (b.is ∙ ap (λ (name : Name). status.Budget name (c.nodes + 1)) (one_first m n c.nodes b.name d.name zip b.first d.first) ∙ sym d.is)

-- ---- whole runs

module _ (never : WhatIsReadIsNeverRefused) (files_have : FilesHaveOneRefusal) where
  answers_once : (c : FlowCommand) (i : Inputs) (r q : Result Product Refusal) → flow_answers c i r → flow_answers c i q → HaveOneStatus c (answered r) (answered q)
  answers_once c i (Ok p) (Ok u) a b = same refl
  answers_once c i (Ok p) (Err q) a (inl b) =
      absurd (never c (get_or i.first 0 []) (get_or i.first 1 []) i.more a.o a.m a.l q.status a.read a.covered a.within b.1)
  answers_once c i (Ok p) (Err q) a (inr b) = ends b.no_tracks (inl refl) (inr (b.shown.net, b.shown.terminal, b.shown.status))
  answers_once c i (Err r) (Ok p) (inl a) b =
      absurd (never c (get_or i.first 0 []) (get_or i.first 1 []) i.more b.o b.m b.l r.status b.read b.covered b.within a.1)
  answers_once c i (Err r) (Ok p) (inr a) b = ends a.no_tracks (inr (a.shown.net, a.shown.terminal, a.shown.status)) (inl refl)
  answers_once c i (Err r) (Err q) (inl a) (inl b) =
      elim (files_have c (get_or i.first 0 []) (get_or i.first 1 []) i.more r.status q.status a.1 b.1) [
        | inl e ↦ same e
        | inr two ↦ rings two
      ]
  answers_once c i (Err r) (Err q) (inl a) (inr b) =
      absurd (never c (get_or i.first 0 []) (get_or i.first 1 []) i.more b.o b.m b.l r.status b.read b.covered b.within a.1)
  answers_once c i (Err r) (Err q) (inr a) (inl b) =
      absurd (never c (get_or i.first 0 []) (get_or i.first 1 []) i.more a.o a.m a.l q.status a.read a.covered a.within b.1)
  answers_once c i (Err r) (Err q) (inr a) (inr b) =
      ends a.no_tracks (inr (a.shown.net, a.shown.terminal, a.shown.status)) (inr (b.shown.net, b.shown.terminal, b.shown.status))

  pub one_status : OneStatus
  one_status c = runs_agree (flow_plan c) (flow_answers c) (HaveOneStatus c) (λ s t e. same e) (answers_once c)
