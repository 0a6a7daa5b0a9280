-- What is read, and covered by its library, isn't refused.
use Rattle.std.proofs.Common.{◌≡◌, ℕ, Bool, true, false, List, ◌∷◌, ◌++◌, ap, subst, arith}
use Rattle.std.specs.List.{All}
use Rattle.vlsi_base.specs.Member.{In, here, there}
use Rattle.vlsi_base.specs.declared.name.Name.{Name}
use Rattle.machine_core.proofs.Values.{In-right}
use Rattle.cell_model.proofs.Members.{All-In}
use Rattle.machine_roots.specs.Roots.{Root, IsOverBudget, IsFirstOver}
use Rattle.vlsi_base.specs.declared.fault.ReadError.TheVariants as reading
use Rattle.machine_core.specs.Machine.{Machine}
use Rattle.machine_core.specs.Size.{machine_size}
use Rattle.vbe_io.specs.Laws.{NeverBoth}
use Rattle.vbe_laws.specs.OneMachine.{MachinesWeighTheSame}
use Rattle.vbe_roots.specs.Law.{MachinesAreWithinTheSame}
use Rattle.fsm_io.specs.Laws.{NeverBoth as NeverBothStates}
use Rattle.syf_run.specs.Syf.{style_of}
use Rattle.syf_run.specs.Laws.{EncodedIsOne}
use Rattle.catal.specs.Laws.{NeverBoth as NeverBothLists}
use Rattle.vlsi_base.specs.declared.kind.Kind.{Kind}
use Rattle.cell_model.specs.Cell.{Cell}
use Rattle.cell_model.specs.Covering.{HasCellOf, needed, IsFirstMissing, first, later}
use Rattle.cell_model.specs.Library.{Library}
use Rattle.cell_lib.specs.Library.{bad_cell, IsLibraryOf}
use Rattle.flow_run.specs.OneLibrary.{LibraryIsNeverRefused, LibrariesCoverTheSame, CoveredLacksNothing}
use Rattle.boog_map.specs.Netlist.{has_registers, Covers}
use Rattle.flow_words.specs.declared.words.FlowCommand.{FlowCommand}
use Rattle.tool_drive.specs.declared.status.Status.{Status}
use Rattle.tool_drive.specs.declared.status.Status.TheVariants as status
use Rattle.tool_drive.specs.Refusals.{OfFile}
use Rattle.flow_run.specs.Origin.{Origin, equations, states, is_fsm, IsOf, refusal_by}
use Rattle.flow_run.specs.Flow.{AreRead, IsNoSource, no_list, no_text, over_size, IsUnread, no_source, no_cell, IsWithinNodes, unread, uncovered, over_budget}
use Rattle.flow_run.specs.Laws.{WhatIsReadIsNeverRefused}

-- where no diagram is over the budget, none is the first
none_first : (m : Machine) (budget : ℕ) (name : Name) → IsWithinNodes m budget → IsFirstOver m budget name → ⊥
none_first m budget name within f =
    let all = subst (λ (rs : List Root). All (λ r. IsOverBudget m budget r → ⊥) rs) f.all within in
    All-In (λ (r : Root). IsOverBudget m budget r → ⊥) (f.before ++ f.root ∷ f.after) all f.root (In-right f.root f.before (f.root ∷ f.after) here) f.over

-- where each of these kinds has a cell, none is missing
pub none_missing : (cells : List Cell) (k : Kind) (kinds : List Kind) → ((j : Kind) → In j kinds → HasCellOf cells j) → IsFirstMissing cells k kinds → ⊥
none_missing cells k _ each (first lacks) = lacks (each k here)
none_missing cells k _ each (later {ks = kinds} has rest) = none_missing cells k kinds (λ j i. each j (there i)) rest

-- ---- sources: a data-flow text is one up to the order of its equations, and a state machine is one

module _ (texts : NeverBoth) (machines : NeverBothStates) where
  pub input_never : (b : Bool) (c : FlowCommand) (source : List ℕ) (o : Origin) (m : Machine) → IsOf b c source o m → (s : Status)
      → OfFile c.source (refusal_by b source) s → ⊥
  input_never false c source equations m is (status.Source name fault) h = texts source m (reading.Input fault) is h.1
  input_never false c source equations m is (status.Limit l) h = texts source m (reading.Limit l) is h
  input_never false c source equations m is _ h = absurd h
  input_never true c source (states f k) m is (status.Source name fault) h = machines source f (reading.Input fault) is.machine h.1
  input_never true c source (states f k) m is (status.Limit l) h = machines source f (reading.Limit l) is.machine h
  input_never true c source (states f k) m is _ h = absurd h
  input_never false c source (states f k) m is s h = absurd is
  input_never true c source equations m is s h = absurd is

module _ (weights : MachinesWeighTheSame) (one : EncodedIsOne) where
  pub size_same : (b : Bool) (c : FlowCommand) (source : List ℕ) (o x : Origin) (m k : Machine) → IsOf b c source o m → IsOf b c source x k
      → machine_size m ≡ machine_size k
  size_same false c source equations equations m k h g = weights source m k h g
  size_same false c source equations (states f i) m k h g = absurd g
  size_same false c source (states f i) x m k h g = absurd h
  size_same true c source (states f i) (states g j) m k h q = ap machine_size (one source (style_of c.encoding c.seed) f g i j m k h q)
  size_same true c source (states f i) equations m k h g = absurd g
  size_same true c source equations x m k h g = absurd h

module _ (budgets : MachinesAreWithinTheSame) (one : EncodedIsOne) where
  within_same : (b : Bool) (c : FlowCommand) (source : List ℕ) (o x : Origin) (m k : Machine) → IsOf b c source o m → IsOf b c source x k
      → (budget : ℕ) → IsWithinNodes m budget → IsWithinNodes k budget
  within_same false c source equations equations m k h g budget within = budgets source m k h g budget within
  within_same false c source equations (states f i) m k h g budget within = absurd g
  within_same false c source (states f i) x m k h g budget within = absurd h
  within_same true c source (states f i) (states g j) m k h q budget within =
      subst (λ (n : Machine). IsWithinNodes n budget) (one source (style_of c.encoding c.seed) f g i j m k h q) within
  within_same true c source (states f i) equations m k h g budget within = absurd g
  within_same true c source equations x m k h g budget within = absurd h

module _ (one : EncodedIsOne) (cover : LibrariesCoverTheSame) (lacks : CoveredLacksNothing) where
  pub lacks_nothing : (b : Bool) (c : FlowCommand) (source catal : List ℕ) (cells : List (List ℕ)) (l own : Library) → IsLibraryOf c.tracks catal cells l
      → IsLibraryOf c.tracks catal cells own → (o x : Origin) (m k : Machine) → IsOf b c source o m → IsOf b c source x k → Covers l m → (kind : Kind)
      → IsFirstMissing own.cells kind (needed (has_registers k)) → ⊥
  lacks_nothing false c source catal cells l own il io equations equations m k h g covered kind missing =
      lacks c.tracks c.tracks catal cells l own il io source m k h g covered kind missing
  lacks_nothing false c source catal cells l own il io equations (states f i) m k h g covered kind missing = absurd g
  lacks_nothing false c source catal cells l own il io (states f i) x m k h g covered kind missing = absurd h
  lacks_nothing true c source catal cells l own il io (states f i) (states g j) m k h q covered kind missing =
      let same = one source (style_of c.encoding c.seed) f g i j m k h q in
      let there_too : Covers own m = ((cover c.tracks c.tracks catal cells l own il io).machines m).0 covered in
      let other : Covers own k = subst (λ (n : Machine). Covers own n) same there_too in
      none_missing own.cells kind (needed (has_registers k)) other missing
  lacks_nothing true c source catal cells l own il io (states f i) equations m k h g covered kind missing = absurd g
  lacks_nothing true c source catal cells l own il io equations x m k h g covered kind missing = absurd h

-- ---- all refusals

module _ (lists : NeverBothLists) (texts : NeverBoth) (machines : NeverBothStates) (weights : MachinesWeighTheSame) (budgets : MachinesAreWithinTheSame) (one : EncodedIsOne)
    (libraries : LibraryIsNeverRefused) (cover : LibrariesCoverTheSame) (lacks : CoveredLacksNothing) where
  source_never : (c : FlowCommand) (source catal : List ℕ) (cells : List (List ℕ)) (o : Origin) (m : Machine) (l : Library) (s : Status)
      → AreRead c source catal cells o m l → IsNoSource c source s → ⊥
  source_never c source catal cells o m l s read (no_text h) = input_never texts machines (is_fsm c) c source o m read.machine s h
  source_never c source catal cells o m l s read (over_size x k machine over is) =
      let same = size_same weights one (is_fsm c) c source o x m k read.machine machine in
      let small = read.small in
      omega (arith, same, small, over)

  unread_never : (c : FlowCommand) (source catal : List ℕ) (cells : List (List ℕ)) (o : Origin) (m : Machine) (l : Library) (s : Status)
      → AreRead c source catal cells o m l → IsUnread c source catal cells s → ⊥
  unread_never c source catal cells o m l s read (no_list fault refused is) = lists catal read.library.names fault read.library.uses refused
  unread_never c source catal cells o m l s read (no_source names uses h) = source_never c source catal cells o m l s read h
  unread_never c source catal cells o m l s read (no_cell x k names e machine uses refused is) =
      libraries c.tracks catal cells l e read.library (bad_cell names uses refused)

  pub never_refused : WhatIsReadIsNeverRefused
  never_refused c source catal cells o m l s read covered within (over_budget x k own others too b) =
      none_first k c.nodes b.name (within_same budgets one (is_fsm c) c source o x m k read.machine others.machine c.nodes within) b.first
  never_refused c source catal cells o m l s read covered within (unread h) = unread_never c source catal cells o m l s read h
  never_refused c source catal cells o m l s read covered within (uncovered x k own kind others missing is) =
      lacks_nothing one cover lacks (is_fsm c) c source catal cells l own read.library others.library o x m k read.machine others.machine covered kind missing
