-- Runs of what is left free.
use Rattle.std.proofs.Common.{◌≡◌, ◌⊎◌, inl, inr, ℕ, ◌<◌, Bool, true, List, [], ◌∷◌, map, length, Option, None, Some, refl, sym, subst, ◌∙◌, arith}
use Rattle.std.specs.List.{AllZip}
use Rattle.vlsi_base.specs.declared.name.Name.{Name}
use Rattle.bool_expr.specs.Support.{among}
use Rattle.fsm_machine.specs.Fsm.{Fsm, fsm_outputs, seen, walked_next, walked_output, FsmRun}
use Rattle.fsm_machine.specs.Assigned.{AssignedIsKnown}
use Rattle.fsm_machine.specs.MachineOf.{all_states}
use Rattle.fsm_machine.proofs.Nexts.{IsAmong, walk_among}
use Rattle.fsm_machine.proofs.States.{among_up}
use Rattle.fsm_core.specs.Checked.{IsCheckedFsm}
use Rattle.syf_machine.proofs.Lists.{in_contains, some_value, all_known}
use Rattle.state_free.specs.Free.{AreFreeFsm}
use Rattle.state_free.specs.Runs.{MayShow, FreeFsmRun}
use Rattle.state_free.specs.Law.{NothingFreeInStates, BothMayRun, FreeRunsExist}
use Rattle.state_free.proofs.Laws.{both_walk_alike}

-- ---- outputs that are known

module _ (known : Name → Option Bool) (P : Name → Bool → Type 0) (may : (n : Name) (b : Bool) → known n ≡ Some b → P n b) where
  pub known_may : (names : List Name) (outs : List Bool) → map known names ≡ map (λ b. Some b) outs → AllZip P names outs
  known_may [] [] h = tt
  known_may [] (b ∷ outs) h = absurd (cc)
  known_may (n ∷ names) [] h = absurd (cc)
  known_may (n ∷ names) (b ∷ outs) h = (may n b cc, known_may names outs cc)

one_walk : (o : Option Bool) (b : Bool) → (o ≡ Some b) ⊎ (o ≡ Some b) → o ≡ Some b
one_walk o b (inl h) = h
one_walk o b (inr h) = h

may_known : (known : Name → Option Bool) (names : List Name) (outs : List Bool) → AllZip (λ n b. (known n ≡ Some b) ⊎ (known n ≡ Some b)) names outs
    → map known names ≡ map (λ b. Some b) outs
may_known known [] [] h = refl
may_known known [] (b ∷ outs) h = absurd h
may_known known (n ∷ names) [] h = absurd h
may_known known (n ∷ names) (b ∷ outs) h =
    λ j. one_walk (known n) b h.0 j ∷ may_known known names outs h.1 j

-- ---- both machines' runs

pub low_runs : (low high : Fsm) (v : List (List Bool)) (s : ℕ) (y : List (List Bool)) → FsmRun low s v y → FreeFsmRun low high s v y
low_runs low high [] s y run = run
low_runs low high (i ∷ v) s y (o, outputs, (t, walked, (rest, are, run))) = (
  o,
  known_may (walked_output low i (Some s)) (λ n b. MayShow low high i s n b) (λ n b h. inl h) (fsm_outputs low) o outputs,
  (t, walked, (rest, are, low_runs low high v t rest run)),
)

high_runs : (low high : Fsm) → AreFreeFsm low high → fsm_outputs high ≡ fsm_outputs low → (v : List (List Bool)) (s : ℕ) (y : List (List Bool)) → FsmRun high s v y → FreeFsmRun low high s v y
high_runs low high free same [] s y run = run
high_runs low high free same (i ∷ v) s y (o, outputs, (t, walked, (rest, are, run))) = (
  o,
  subst (λ (names : List Name). AllZip (λ n b. MayShow low high i s n b) names o) same
      (known_may (walked_output high i (Some s)) (λ n b. MayShow low high i s n b) (λ n b h. inr h) (fsm_outputs high) o outputs),
  (t, sym (both_walk_alike low high i (Some s) free) ∙ walked, (rest, are, high_runs low high free same v t rest run)),
)

pub both_may_run : BothMayRun
both_may_run low high s v y free = (
  low_runs low high v s y,
  high_runs low high free (λ j. fsm_outputs (record { name = low.name; ports = free.ports j; clock = low.clock; states = low.states; body = low.body })) v s y,
)

pub nothing_free : NothingFreeInStates
nothing_free f s v y = (down v s y, low_runs f f v s y) where
  down : (v : List (List Bool)) (s : ℕ) (y : List (List Bool)) → FreeFsmRun f f s v y → FsmRun f s v y
  down [] s y run = run
  down (i ∷ v) s y (o, outputs, (t, walked, (rest, are, run))) =
      (o, may_known (walked_output f i (Some s)) (fsm_outputs f) o outputs, (t, walked, (rest, are, down v t rest run)))

-- ---- there is a run

next_within : (f : Fsm) → IsCheckedFsm f → (i : List Bool) (st : Option ℕ) (t : ℕ) → walked_next f i st ≡ Some t → t < length f.states
next_within f checked i st t e =
    let P : Option ℕ → Type 0 = λ k. IsAmong (all_states f) k in
    let g : among t (all_states f) ≡ true = subst P e (walk_among (seen f i) st (all_states f) f.body None checked.sound tt) in
    let l = among_up t 0 (length f.states) g in omega arith

runs_on : AssignedIsKnown → (f : Fsm) → IsCheckedFsm f → (v : List (List Bool)) (s : ℕ) → s < length f.states → (y : List (List Bool)) × FsmRun f s v y
runs_on known f checked [] s below = ([], refl)
runs_on known f checked (i ∷ v) s below =
    let is = known f i s checked.assigned below in
    let outs = all_known (walked_output f i (Some s)) (fsm_outputs f) (λ name j. is.1 name (in_contains name (fsm_outputs f) j)) in
    let next = some_value (walked_next f i (Some s)) is.0 in
    let rest = runs_on known f checked v next.0 (next_within f checked i (Some s) next.0 next.1) in
    (outs.0 ∷ rest.0, (outs.0, outs.1, (next.0, next.1, (rest.0, refl, rest.1))))

pub free_runs : AssignedIsKnown → FreeRunsExist
free_runs known low high s v checked free below =
    let run = runs_on known low checked v s below in
    (run.0, low_runs low high v s run.0 run.1)
