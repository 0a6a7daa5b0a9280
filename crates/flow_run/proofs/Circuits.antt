-- Runs of `gen`: what is written of a circuit is never refused, the headline, and when an answer of 0 has to come.
use Rattle.std.proofs.Common.{◌≡◌, inl, inr, ℕ, ◌-◌, ◌≤◌, Bool, true, false, cond, List, [], ◌∷◌, ◌++◌, drop, length, Option, None, Some, option_map, IfSome, Result, Ok, Err, codes, nat_eq, length-append, refl, sym, ap, subst, ◌∙◌, arith}
use Rattle.std.specs.List.{ends_with}
use Rattle.std.specs.FinMap.{get, insert, get-insert, slice_cmp-IsAntisymmetric, nat_cmp-IsAntisymmetric}
use Rattle.std.specs.Ordering.{nat_cmp, is_eq}
use Rattle.std.specs.Cmp.{tied_itself}
use Rattle.std.specs.Cmp.Lexicographic.{pointwise, slice_cmp, nat_list_cmp_total}
use Rattle.std.specs.declared.cmp.Ordering.{Ordering}
use Rattle.std.specs.declared.cmp.Ordering.TheVariants.{Less, Equal, Greater}
use Rattle.std.proofs.Math.Seq.{drop-append_seam}
use Rattle.vlsi_base.specs.declared.fault.ReadError.TheVariants as errors
use Rattle.vlsi_shelf.specs.Files.{Files}
use Rattle.vlsi_shelf.specs.Counts.{Rose, NoneFalls}
use Rattle.vlsi_shelf.specs.Shelf.{Writes}
use Rattle.vlsi_shelf.specs.Sink.{Puts}
use Rattle.machine_core.specs.Machine.{Machine}
use Rattle.machine_core.specs.Alike.{AlikeRun, AlikeBothWays}
use Rattle.catal.specs.Laws.{NeverBoth as NeverBothLists}
use Rattle.cell_lib.specs.Library.{bad_cell}
use Rattle.flow_run.specs.OneLibrary.{LibraryIsNeverRefused, LibrariesCoverTheSame}
use Rattle.vbe_io.specs.Text.{IsVbe}
use Rattle.vbe_laws.specs.OneMachine.{MachinesWeighTheSame}
use Rattle.vbe_roots.specs.Law.{MachinesHaveTheSameDags, MachinesCountTheSame, MachinesAreWithinTheSame, InnerSignalsWeighTheSame}
use Rattle.gen_circuit.specs.Laws.{CircuitsAreChecked}
use Rattle.gen_circuit.specs.Written.{IsReadAgain, CircuitsCanBeWritten, CircuitsAreReadAgain}
use Rattle.flow_words.specs.declared.words.FlowCommand.{FlowCommand}
use Rattle.flow_words.specs.declared.words.GenCommand.{GenCommand}
use Rattle.tool_drive.specs.declared.status.Status.{Status}
use Rattle.tool_drive.specs.declared.status.Status.TheVariants as status
use Rattle.tool_drive.specs.declared.status.FileCause.TheVariants.{Missing, ReadFault, WriteFault, OutFault}
use Rattle.tool_drive.specs.declared.tool.Product.{Product}
use Rattle.tool_drive.specs.declared.tool.Refusal.{Refusal}
use Rattle.tool_drive.specs.Outside.{Outside, NothingFailed}
use Rattle.tool_drive.specs.Held.{Holds}
use Rattle.tool_drive.specs.Plan.{Inputs, inputs, Reading, got, reading}
use Rattle.tool_drive.specs.Refusals.{OfFile}
use Rattle.tool_drive.specs.Table.{status_of, Follows, IsComplete}
use Rattle.flow_run.specs.Origin.{Origin, equations, states, is_fsm, IsOf, IsSourceFor, refusal_by}
use Rattle.flow_run.specs.Flow.{flow_plan, flow_answers, IsWithinNodes, IsNoSource, no_list, no_text, over_size, no_source, no_cell, unread, uncovered, over_budget}
use Rattle.flow_run.specs.Causes.{Stand, IsDrawn, Ends}
use Rattle.flow_run.specs.Drawn.{layout_name}
use Rattle.flow_run.specs.Route.{route_of}
use Rattle.flow_run.specs.RightLayout.{IsRightLayout}
use Rattle.flow_run.specs.Laws.{WhatIsReadIsNeverRefused}
use Rattle.flow_run.specs.Generated.{IsFitting, circuit_of, circuit_text, IsUnwritten, IsWritten, unwritten, laid, with_source, IsGenerated, IsGenFree, CircuitsAreNeverRefused, RunsHaveHeadlines, FreeRunsEnd}
use Rattle.flow_run.proofs.SameText.{right_same}
use Rattle.flow_run.proofs.Netlists.{covers_alike}
use Rattle.flow_run.proofs.Rows.{headline_of, ends_accepted, ends_memory, ends_stuck}
use Rattle.flow_run.proofs.Standing.{reads}

-- ---- names of files

-- what ends in .vbe doesn't end in .fsm
no_states : (out : List ℕ) → ends_with nat_eq (out ++ codes ".vbe") (codes ".fsm") ≡ false
no_states out =
    let long = length-append out (codes ".vbe") in
    let n : length (out ++ codes ".vbe") - 4 ≡ length out = omega (arith, long) in
    ap (λ (k : ℕ). pointwise nat_eq (codes ".fsm") (drop k (out ++ codes ".vbe"))) n
    ∙ ap (λ (xs : List ℕ). pointwise nat_eq (codes ".fsm") xs) (drop-append_seam out (codes ".vbe"))

pub is_text : (c : GenCommand) → IsFitting c → is_fsm c.flow ≡ false
is_text c fit = ap (λ (s : List ℕ). ends_with nat_eq s (codes ".fsm")) fit.source ∙ no_states c.flow.out

-- the source is no layout
apart : (c : GenCommand) → IsFitting c → c.flow.source ≡ layout_name c.flow.out → ⊥
apart c fit same =
    let long : length (c.flow.out ++ codes ".vbe") ≡ length (c.flow.out ++ codes ".ap") = ap (λ (s : List ℕ). length s) (sym fit.source ∙ same) in
    let a = length-append c.flow.out (codes ".vbe") in
    let b = length-append c.flow.out (codes ".ap") in
    absurd (omega (arith, long, a, b))

-- ---- files

pub written_here : (files : Files) (name bytes : List ℕ) → get (insert files name bytes) name ≡ Some bytes
written_here files name bytes =
    get-insert nat_list_cmp_total files name bytes name
    ∙ ap (λ (r : Ordering). cond (is_eq r) (Some bytes) (get files name)) (tied_itself nat_list_cmp_total name)

written_apart : (files : Files) (name bytes other : List ℕ) → (name ≡ other → ⊥) → get (insert files other bytes) name ≡ get files name
written_apart files name bytes other differ = get-insert nat_list_cmp_total files other bytes name ∙ by (slice_cmp nat_cmp name other) refl where
  by : (r : Ordering) → slice_cmp nat_cmp name other ≡ r → cond (is_eq r) (Some bytes) (get files name) ≡ get files name
  by Less is = refl
  by Greater is = refl
  by Equal is = absurd (differ (slice_cmp-IsAntisymmetric nat_cmp-IsAntisymmetric name other is))

-- ---- what is read of a circuit

read_as : (b : Bool) (c : FlowCommand) (source : List ℕ) (o : Origin) (m : Machine) → b ≡ false → IsOf b c source o m → (o ≡ equations) × IsVbe source m
read_as false c source equations m e h = (refl, h)
read_as false c source (states f k) m e h = absurd h
read_as true c source o m e h = absurd (cc e)

pub source_read : (c : GenCommand) → IsFitting c → (source : List ℕ) (o : Origin) (m : Machine) → IsSourceFor c.flow source o m → (o ≡ equations) × IsVbe source m
source_read c fit source o m h = read_as (is_fsm c.flow) c.flow source o m (is_text c fit) h

-- ---- never refused

module _ (again : CircuitsAreReadAgain) where
  pub fits : (c : GenCommand) → IsFitting c → IsReadAgain (circuit_of c)
  fits c fit = again c.flow.seed c.size fit.least fit.most

  pub not_text : (b : Bool) (c : GenCommand) → IsFitting c → b ≡ false → (s : Status) → OfFile c.flow.source (refusal_by b (circuit_text c)) s → ⊥
  not_text true c fit e s h = cc e
  not_text false c fit e (status.Source name fault) h = cc ((fits c fit).accepted (errors.Input fault) h.1)
  not_text false c fit e (status.Limit l) h = cc ((fits c fit).accepted (errors.Limit l) h)
  not_text false c fit e _ h = absurd h

module _ (again : CircuitsAreReadAgain) (lists : NeverBothLists) (never : WhatIsReadIsNeverRefused) (libraries : LibraryIsNeverRefused) (cover : LibrariesCoverTheSame)
    (budgets : MachinesAreWithinTheSame) where
  no_source_never : (c : GenCommand) (s : Status) → IsFitting c → IsNoSource c.flow (circuit_text c) s → ⊥
  no_source_never c s fit (no_text h) = not_text again (is_fsm c.flow) c fit (is_text c fit) s h
  no_source_never c s fit (over_size o m machine over is) =
      let small = (fits again c fit).light m (source_read c fit (circuit_text c) o m machine).1 in
      absurd (omega (arith, small, over))

  -- the machine that is read is within the budget, as the circuit is
  within_read : (c : GenCommand) → IsFitting c → (o : Origin) (m : Machine) → IsSourceFor c.flow (circuit_text c) o m
      → IsWithinNodes (circuit_of c) c.flow.nodes → IsWithinNodes m c.flow.nodes
  within_read c fit o m read within =
      budgets (circuit_text c) (circuit_of c) m (fits again c fit).itself (source_read c fit (circuit_text c) o m read).1 c.flow.nodes within

  pub circuits_never : CircuitsAreNeverRefused
  circuits_never c catal cells l s fit library covered within (unread (no_list fault refused is)) = lists catal library.names fault library.uses refused
  circuits_never c catal cells l s fit library covered within (unread (no_source names uses h)) = no_source_never c s fit h
  circuits_never c catal cells l s fit library covered within (unread (no_cell o m names e machine uses refused is)) =
      libraries c.flow.tracks catal cells l e library (bad_cell names uses refused)
  circuits_never c catal cells l s fit library covered within (uncovered o m own kind read missing is) =
      never c.flow (circuit_text c) catal cells o m own s read
      (((cover c.flow.tracks c.flow.tracks catal cells l own library read.library).machines m).0
      (covers_alike l (circuit_of c) m ((fits again c fit).alike m (source_read c fit (circuit_text c) o m read.machine).1) covered))
      (within_read c fit o m read.machine within) (uncovered o m own kind read missing is)
  circuits_never c catal cells l s fit library covered within (over_budget o m own read too b) =
      never c.flow (circuit_text c) catal cells o m own s read too (within_read c fit o m read.machine within) (over_budget o m own read too b)

-- ---- the headline

pub held_same : (files : Files) (name bytes other : List ℕ) → Holds (insert files name bytes) name other → other ≡ bytes
held_same files name bytes other h = cc (sym h.is ∙ written_here files name bytes)

module _ (again : CircuitsAreReadAgain) (checked : CircuitsAreChecked) (runs : AlikeRun) (both : AlikeBothWays) (weights : MachinesWeighTheSame)
    (dags : MachinesHaveTheSameDags) (counts : MachinesCountTheSame) (inner : InnerSignalsWeighTheSame) where
  -- the circuit is read of its own text too, and what is right for the machine that was read is right for it
  generated : (c : GenCommand) → IsFitting c → (old : Files) (now : Option Files) (report : List ℕ) → IsDrawn (with_source old c) now c.flow report → IsGenerated old now c report
  generated c fit old now report d =
      let k = circuit_of c in
      let text = circuit_text c in
      let again_read = fits again c fit in
      let itself : IsVbe text k = again_read.itself in
      let same : d.source ≡ text = held_same old c.flow.source text d.source d.stood.source_is in
      let read = source_read c fit d.source d.o d.m d.read.machine in
      let said : IsVbe text d.m = subst (λ (s : List ℕ). IsVbe s d.m) same read.1 in
      let light = again_read.light k itself in
      record {
        itself = itself;
        drawn = record {
          source = d.source;
          catal = d.catal;
          cells = d.cells;
          stood = d.stood;
          o = equations;
          m = k;
          l = d.l;
          read = record {
            machine = subst (λ (b : Bool). IsOf b c.flow d.source equations k) (sym (is_text c fit)) (subst (λ (s : List ℕ). IsVbe s k) (sym same) itself);
            small = omega (arith, light);
            library = d.read.library;
          };
          bytes = d.bytes;
          written = d.written;
          right = right_same d.l k d.m (again_read.alike d.m said) (weights text d.m k said itself) (inner text d.m k said itself)
              (dags text d.m k said itself) (counts text d.m k said itself) runs both (checked c.flow.seed c.size fit.least fit.most).ordered
              said.machine.checked.ordered d.bytes c.flow.fanout (route_of c.flow) report
              (subst (λ (o : Origin). IsRightLayout d.bytes o d.m d.l c.flow.fanout (route_of c.flow) report) read.0 d.right);
        };
        source = refl;
        circuit = refl;
        stands = subst (λ (o : Option Files). IfSome o (λ files. get files c.flow.source ≡ Some text)) (sym d.written)
            (written_apart (with_source old c) c.flow.source d.bytes (layout_name c.flow.out) (apart c fit) ∙ written_here old c.flow.source text);
      }

  stands_whole : (c : GenCommand) → IsFitting c → (before mid now : Option Files) (report : List ℕ) → Writes before mid c.flow.source (circuit_text c)
      → IfSome mid (λ old. IsDrawn old now c.flow report) → IfSome before (λ old. IsGenerated old now c report)
  stands_whole c fit None mid now report w h = tt
  stands_whole c fit (Some old) mid now report w h =
      generated c fit old now report (subst (λ (o : Option Files). IfSome o (λ files. IsDrawn files now c.flow report)) w h)

  pub run_headline : RunsHaveHeadlines
  run_headline c before now s fit (unwritten u) is = absurd (subst (λ (x : Status). IsUnwritten c before now x) is u)
  run_headline c before now s fit (laid mid w caused complete) is =
      let h = headline_of c.flow mid now s caused is in
      (h.0, subst (λ (told : Option (List ℕ)). Puts told now.told h.0) w.told h.1, stands_whole c fit before.files mid.files now.files h.0 w.files h.2)

-- ---- an answer of 0

rose_before : (a b x : ℕ) → a ≤ b → Rose b x → Rose a x
rose_before a b x l h = omega (arith, l, h)

failed_before : (before mid now : Outside) → NoneFalls before.counts mid.counts → NothingFailed before now → NothingFailed mid now
failed_before before mid now falls none = record {
  reads = λ h. none.reads (rose_before before.counts.read_faults mid.counts.read_faults now.counts.read_faults falls.read_faults h);
  writes = λ h. none.writes (rose_before before.counts.write_faults mid.counts.write_faults now.counts.write_faults falls.write_faults h);
}

module _ (written : CircuitsCanBeWritten) (never : CircuitsAreNeverRefused) where
  stood : (c : GenCommand) → IsFitting c → (before now : Outside) (free : IsGenFree c before now) → Stand (with_source free.files c) c.flow (circuit_text c) free.catal free.cells
  stood c fit before now free = record {
    source_is = record { is = written_here free.files c.flow.source (circuit_text c); fits = (written c.flow.seed c.size fit.least fit.most).1.short };
    catal_is = free.catal_is;
    cells_are = free.cells_are;
  }

  answered : (c : GenCommand) → IsFitting c → (before now : Outside) (free : IsGenFree c before now) (s : Status) (r : Result Product Refusal)
      → flow_answers c.flow (inputs (circuit_text c ∷ free.catal ∷ []) free.cells) r → s ≡ status_of r → Ends c.flow.tracks s
  answered c fit before now free s (Ok p) h e = ends_accepted c.flow.tracks s e
  answered c fit before now free s (Err r) (inl h) e = absurd (never c free.catal free.cells free.l r.status fit free.library free.covered free.within h.1)
  answered c fit before now free s (Err r) (inr h) e = ends_stuck c.flow.tracks s h.no_tracks h.shown.net h.shown.terminal (e ∙ h.shown.status)

  laid_ends : (c : GenCommand) → IsFitting c → (before mid now : Outside) (s : Status) → IsWritten c before mid → IsComplete (flow_plan c.flow) (flow_answers c.flow) mid now s
      → IsGenFree c before now → Ends c.flow.tracks s
  laid_ends c fit before mid now s w complete free =
      let files = with_source free.files c in
      let told : mid.files ≡ Some files = w.files ∙ ap (option_map (λ f. insert f c.flow.source (circuit_text c))) free.told in
      let A = flow_answers c.flow in
      let i = inputs (circuit_text c ∷ free.catal ∷ []) free.cells in
      let all : IfSome (Some files) (λ x. NothingFailed mid now → Follows A mid now (reading x (flow_plan c.flow)) s) =
      subst (λ (t : Option Files). IfSome t (λ x. NothingFailed mid now → Follows A mid now (reading x (flow_plan c.flow)) s)) told complete in
      let follows : Follows A mid now (got i) s =
      subst (λ (r : Reading Inputs). Follows A mid now r s) (reads files c.flow (circuit_text c) free.catal free.cells (stood c fit before now free))
      (all (failed_before before mid now w.counts free.ran)) in
      elim (follows (λ h. free.printed (subst (λ (n : ℕ). Rose n now.faults) w.faults h)))
      [ inl x ↦ answered c fit before now free s x.0 x.1 x.2 | inr m ↦ ends_memory c.flow.tracks s m ]

  pub run_ends : FreeRunsEnd
  run_ends c before now s fit (laid mid w caused complete) free = laid_ends c fit before mid now s w complete free
  run_ends c before now status.Memory fit (unwritten u) free = ends_memory c.flow.tracks status.Memory refl
  run_ends c before now (status.File WriteFault name) fit (unwritten u) free = absurd (free.ran.writes u.1)
  run_ends c before now (status.File Missing name) fit (unwritten u) free = absurd u
  run_ends c before now (status.File ReadFault name) fit (unwritten u) free = absurd u
  run_ends c before now (status.File OutFault name) fit (unwritten u) free = absurd u
  run_ends c before now _ fit (unwritten u) free = absurd u
