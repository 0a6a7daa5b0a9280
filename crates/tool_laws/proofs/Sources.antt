-- The words and the files decide what `syf`, `fmi` and `boom` answer.
use Rattle.std.proofs.Common.{◌≡◌, inl, ℕ, ◌+◌, ◌-◌, ◌^◌, min, List, [], ◌∷◌, ◌++◌, get_or, refl, sym, ap, ◌∙◌, subst, arith}
use Rattle.std.specs.Prelude.{Result, Ok, Err}
use Rattle.std.specs.List.{All}
use Rattle.vlsi_base.specs.Member.{In, here}
use Rattle.vlsi_base.specs.declared.fault.LimitKind.TheVariants.{Size, Inputs as ManyInputs}
use Rattle.vlsi_base.specs.declared.name.Name.{Name}
use Rattle.machine_core.specs.Machine.{Machine}
use Rattle.machine_core.proofs.Values.{In-right}
use Rattle.machine_roots.specs.Roots.{Root, roots, IsOverBudget, IsFirstOver}
use Rattle.cell_model.proofs.Members.{All-In}
use Rattle.vbe_io.specs.Text.{IsVbe, IsVbeRefusal}
use Rattle.vbe_io.specs.Laws.{NeverBoth, OneRefusal}
use Rattle.vbe_laws.specs.OneMachine.{MachinesWeighTheSame}
use Rattle.vbe_roots.specs.Law.{MachinesHaveTheSameRoots, MachinesAreWithinTheSame}
use Rattle.fsm_machine.specs.Fsm.{Fsm}
use Rattle.fsm_walk.specs.Reads.{inputs_read}
use Rattle.fsm_io.specs.Text.{IsFsm, IsFsmRefusal}
use Rattle.fsm_io.specs.Laws.{OneFsm, NeverBoth as NeverBothStates, OneRefusal as OneStatesRefusal}
use Rattle.tool_drive.specs.declared.status.Status.{Status}
use Rattle.tool_drive.specs.declared.status.Status.TheVariants as status
use Rattle.tool_drive.specs.declared.tool.Product.{Product}
use Rattle.tool_drive.specs.declared.tool.Refusal.{Refusal}
use Rattle.tool_drive.specs.Plan.{Inputs}
use Rattle.tool_drive.specs.Refusals.{OfFile}
use Rattle.tool_drive.specs.Table.{status_of as answered}
use Rattle.syf_run.specs.declared.words.SyfCommand.{SyfCommand}
use Rattle.syf_run.specs.Syf.{syf_plan, syf_answers}
use Rattle.fmi_run.specs.declared.words.FmiCommand.{FmiCommand}
use Rattle.fmi_run.specs.Fmi.{fmi_plan, IsMinimised, IsFmiRefusal, bad_source as bad_states, too_many, fmi_answers}
use Rattle.boom_run.specs.declared.words.BoomCommand.{BoomCommand}
use Rattle.boom_run.specs.Boom.{boom_plan, IsMadeSmaller, IsBoomRefusal, bad_source, too_large, over_budget, boom_answers}
use Rattle.flow_run.proofs.Runs.{runs_agree}
use Rattle.flow_run.proofs.OneStatus.{told_text, told_states, text_once, states_once, one_first}
use Rattle.tool_laws.specs.OneStatus.{AreSame, AreSameOrRings, SyfHasOneStatus, FmiHasOneStatus, BoomHasOneStatus}

-- ---- `syf`

module _ (never : NeverBothStates) (once : OneStatesRefusal) where
  syf_once : (c : SyfCommand) (i : Inputs) (r q : Result Product Refusal) → syf_answers c i r → syf_answers c i q → answered r ≡ answered q
  syf_once c i (Ok p) (Ok u) a b = refl
  syf_once c i (Ok p) (Err q) a b =
      let t = told_states c.source (get_or i.first 0 []) q.status b.1 in absurd (never (get_or i.first 0 []) a.f t.error a.encoded.machine t.is_refused)
  syf_once c i (Err r) (Ok p) a b =
      let t = told_states c.source (get_or i.first 0 []) r.status a.1 in absurd (never (get_or i.first 0 []) b.f t.error b.encoded.machine t.is_refused)
  syf_once c i (Err r) (Err q) a b = states_once once c.source (get_or i.first 0 []) r.status q.status a.1 b.1

  pub syf_has_one_status : SyfHasOneStatus
  syf_has_one_status c = runs_agree (syf_plan c) (syf_answers c) AreSame (λ s t e. e) (syf_once c)

-- ---- `fmi`

module _ (one : OneFsm) (never : NeverBothStates) (once : OneStatesRefusal) where
  states_or_not : (file source : List ℕ) (f : Fsm) (s : Status) → IsFsm source f → OfFile file (IsFsmRefusal source) s → ⊥
  states_or_not file source f s is h = let t = told_states file source s h in never source f t.error is t.is_refused

  few_or_many : (c : FmiCommand) (source : List ℕ) (p : Product) (s : Status) → IsMinimised c source p → IsFmiRefusal c source s → ⊥
  few_or_many c source p s a (bad_states h) = states_or_not c.source source a.f s a.machine h
  few_or_many c source p s a (too_many f is many) =
      let equal : inputs_read a.f ≡ inputs_read f = ap inputs_read (one source a.f f a.machine is) in
      let few = a.few in
      let more = many.0 in
      omega (arith, equal, few, more)

  states_refused : (c : FmiCommand) (source : List ℕ) (s t : Status) → IsFmiRefusal c source s → IsFmiRefusal c source t → s ≡ t
  states_refused c source s t (bad_states h) (bad_states g) = states_once once c.source source s t h g
  states_refused c source s t (bad_states h) (too_many f is many) = absurd (states_or_not c.source source f s is h)
  states_refused c source s t (too_many f is many) (bad_states h) = absurd (states_or_not c.source source f t is h)
  states_refused c source s t (too_many f is many) (too_many g of more) =
      many.1 ∙ ap (λ (x : Fsm). status.Limit (record { which = ManyInputs; reached = inputs_read x })) (one source f g is of) ∙ sym more.1

  fmi_once : (c : FmiCommand) (i : Inputs) (r q : Result Product Refusal) → fmi_answers c i r → fmi_answers c i q → answered r ≡ answered q
  fmi_once c i (Ok p) (Ok u) a b = refl
  fmi_once c i (Ok p) (Err q) a b = absurd (few_or_many c (get_or i.first 0 []) p q.status a b.1)
  fmi_once c i (Err r) (Ok p) a b = absurd (few_or_many c (get_or i.first 0 []) p r.status b a.1)
  fmi_once c i (Err r) (Err q) a b = states_refused c (get_or i.first 0 []) r.status q.status a.1 b.1

  pub fmi_has_one_status : FmiHasOneStatus
  fmi_has_one_status c = runs_agree (fmi_plan c) (fmi_answers c) AreSame (λ s t e. e) (fmi_once c)

-- ---- `boom`

-- no diagram that is over the budget is the first
none_first : (m : Machine) (budget : ℕ) (name : Name) → All (λ r. IsOverBudget m budget r → ⊥) (roots m) → IsFirstOver m budget name → ⊥
none_first m budget name within f =
    let all = subst (λ (rs : List Root). All (λ r. IsOverBudget m budget r → ⊥) rs) f.all within in
    All-In (λ (r : Root). IsOverBudget m budget r → ⊥) (f.before ++ f.root ∷ f.after) all f.root (In-right f.root f.before (f.root ∷ f.after) here) f.over

module _ (never : NeverBoth) (once : OneRefusal) (weights : MachinesWeighTheSame) (diagrams : MachinesHaveTheSameRoots) (budgets : MachinesAreWithinTheSame) where
  text_or_not : (file source : List ℕ) (m : Machine) (s : Status) → IsVbe source m → OfFile file (IsVbeRefusal source) s → ⊥
  text_or_not file source m s is h = let t = told_text file source s h in never source m t.error is t.is_refused

  made_or_not : (c : BoomCommand) (source : List ℕ) (p : Product) (s : Status) → IsMadeSmaller c source p → IsBoomRefusal c source s → ⊥
  made_or_not c source p s a (bad_source h) = text_or_not c.source source a.m s a.machine h
  made_or_not c source p s a (too_large m is large told) =
      let equal = weights source a.m m a.machine is in
      let small = a.small in
      omega (arith, equal, small, large)
  made_or_not c source p s a (over_budget m is small b) = none_first m c.nodes b.name (budgets source a.m m a.machine is c.nodes a.made.within) b.first

  refusals_once : (c : BoomCommand) (source : List ℕ) (s t : Status) → IsBoomRefusal c source s → IsBoomRefusal c source t → AreSameOrRings c.source s t
  refusals_once c source s t (bad_source h) (bad_source g) = text_once once c.source source s t h g
  refusals_once c source s t (bad_source h) (too_large m is large told) = absurd (text_or_not c.source source m s is h)
  refusals_once c source s t (bad_source h) (over_budget m is small b) = absurd (text_or_not c.source source m s is h)
  refusals_once c source s t (too_large m is large told) (bad_source h) = absurd (text_or_not c.source source m t is h)
  refusals_once c source s t (too_large m is large told) (too_large k of more also) =
      let equal = weights source m k is of in
      inl (told ∙ ap (λ (n : ℕ). status.Limit (record { which = Size; reached = min n (2 ^ 64 - 1) })) equal ∙ sym also)
  refusals_once c source s t (too_large m is large told) (over_budget k of small b) =
      let equal = weights source m k is of in absurd (omega (arith, equal, large, small))
  refusals_once c source s t (over_budget m is small b) (bad_source h) = absurd (text_or_not c.source source m t is h)
  refusals_once c source s t (over_budget m is small b) (too_large k of large told) =
      let equal = weights source m k is of in absurd (omega (arith, equal, large, small))
  refusals_once c source s t (over_budget m is small b) (over_budget k of little d) =
      inl (b.is ∙ ap (λ (name : Name). status.Budget name (c.nodes + 1)) (one_first m k c.nodes b.name d.name (diagrams source m k is of) b.first d.first) ∙ sym d.is)

  boom_once : (c : BoomCommand) (i : Inputs) (r q : Result Product Refusal) → boom_answers c i r → boom_answers c i q → AreSameOrRings c.source (answered r) (answered q)
  boom_once c i (Ok p) (Ok u) a b = inl refl
  boom_once c i (Ok p) (Err q) a b = absurd (made_or_not c (get_or i.first 0 []) p q.status a b.1)
  boom_once c i (Err r) (Ok p) a b = absurd (made_or_not c (get_or i.first 0 []) p r.status b a.1)
  boom_once c i (Err r) (Err q) a b = refusals_once c (get_or i.first 0 []) r.status q.status a.1 b.1

  pub boom_has_one_status : BoomHasOneStatus
  boom_has_one_status c = runs_agree (boom_plan c) (boom_answers c) (AreSameOrRings c.source) (λ s t e. inl e) (boom_once c)
