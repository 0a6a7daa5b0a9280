-- Where the state machine with each free bit 0 has passed its checks, so has that with each 1.
use Rattle.std.proofs.Common.{◌≡◌, inl, inr, ℕ, suc, ◌+◌, Bool, ◌&&◌, ◌||◌, List, length, arith, sym, ap, subst, ◌∙◌, if◌then◌else◌}
use Rattle.vlsi_base.specs.declared.name.Name.{Name}
use Rattle.bool_expr.specs.Expression.{Expression, constant, variable, inverse, pair, choice}
use Rattle.bool_expr.specs.Support.{among}
use Rattle.fsm_machine.specs.Statements.{Assignment, output, next, Statements, finish, assign, choose, select, Parts, only, either, further, Branches, closed, others, listed}
use Rattle.fsm_machine.specs.Fsm.{Fsm}
use Rattle.fsm_machine.specs.Assigned.{sure, sure_parts, sure_branches, sets_next, sets_output, IsAssigned}
use Rattle.fsm_machine.specs.Sound.{IsKnownNext, IsSound, ArePartsSound, AreBranchesSound}
use Rattle.fsm_machine.specs.Signals.{without, signals}
use Rattle.fsm_machine.specs.MachineOf.{port_places, all_states}
use Rattle.fsm_machine.proofs.Step.{moved_count}
use Rattle.fsm_core.specs.Checked.{IsInput, ReadsInputs, IsAssignmentOf, IsBodyOf, ArePartsOf, AreBranchesOf, cases_in, cases_in_parts, cases_in_branches, ListsStates, PartsListStates, BranchesListStates, IsCheckedFsm}
use Rattle.state_free.specs.Free.{IsFreeAssignment, AreFreeStatements, AreFreeParts, AreFreeBranches}
use Rattle.state_free.specs.Law.{BothAreChecked}
use Rattle.state_free.proofs.Alike.{with_body, high_is, same_signals}

-- ---- branches and next states are known

known : (states : List ℕ) (a b : Assignment) → IsFreeAssignment a b → IsKnownNext states a → IsKnownNext states b
known states (output name e) b (inl h) k = subst (IsKnownNext states) (sym h) tt
known states (output name e) b (inr h) k = subst (IsKnownNext states) (sym h.1) tt
known states (next s) b h k = subst (IsKnownNext states) (sym h) k

module _ (states : List ℕ) where
  mutual
    pub sound : (a b : Statements) → AreFreeStatements a b → IsSound states a → IsSound states b
    sound finish b h k = subst (IsSound states) (sym h) tt
    sound (assign a rest) b h k = subst (IsSound states) (sym h.2) (known states a h.0 h.3.0 k.0, sound rest h.1 h.3.1 k.1)
    sound (choose parts rest) b h k = subst (IsSound states) (sym h.2) (sound_parts parts h.0 h.3.0 k.0, sound rest h.1 h.3.1 k.1)
    sound (select branches rest) b h k = subst (IsSound states) (sym h.2) (sound_branches states branches h.0 h.3.0 k.0, sound rest h.1 h.3.1 k.1)

    sound_parts : (a b : Parts) → AreFreeParts a b → ArePartsSound states a → ArePartsSound states b
    sound_parts (only c a) b h k = subst (ArePartsSound states) (sym h.1) (sound a h.0 h.2 k)
    sound_parts (either c a o) b h k = subst (ArePartsSound states) (sym h.2) (sound a h.0 h.3.0 k.0, sound o h.1 h.3.1 k.1)
    sound_parts (further c a more) b h k = subst (ArePartsSound states) (sym h.2) (sound a h.0 h.3.0 k.0, sound_parts more h.1 h.3.1 k.1)

    sound_branches : (left : List ℕ) (a b : Branches) → AreFreeBranches a b → AreBranchesSound states left a → AreBranchesSound states left b
    sound_branches left closed b h k = subst (AreBranchesSound states left) (sym h) tt
    sound_branches left (others a) b h k = subst (AreBranchesSound states left) (sym h.1) (sound a h.0 h.2 k)
    sound_branches left (listed here a more) b h k =
        subst (AreBranchesSound states left) (sym h.2) (k.0, (sound a h.0 h.3.0 k.1.0, sound_branches (without here left) more h.1 h.3.1 k.1.1))

-- ---- cases, and what their branches list

mutual
  same_cases : (a b : Statements) → AreFreeStatements a b → cases_in b ≡ cases_in a
  same_cases finish b h = ap cases_in h
  same_cases (assign a rest) b h = ap cases_in h.2 ∙ same_cases rest h.1 h.3.1
  same_cases (choose parts rest) b h = ap cases_in h.2 ∙ (λ j. same_part_cases parts h.0 h.3.0 j + same_cases rest h.1 h.3.1 j)
  same_cases (select branches rest) b h = ap cases_in h.2 ∙ (λ j. suc (same_branch_cases branches h.0 h.3.0 j + same_cases rest h.1 h.3.1 j))

  same_part_cases : (a b : Parts) → AreFreeParts a b → cases_in_parts b ≡ cases_in_parts a
  same_part_cases (only c a) b h = ap cases_in_parts h.1 ∙ same_cases a h.0 h.2
  same_part_cases (either c a o) b h = ap cases_in_parts h.2 ∙ (λ j. same_cases a h.0 h.3.0 j + same_cases o h.1 h.3.1 j)
  same_part_cases (further c a more) b h = ap cases_in_parts h.2 ∙ (λ j. same_cases a h.0 h.3.0 j + same_part_cases more h.1 h.3.1 j)

  same_branch_cases : (a b : Branches) → AreFreeBranches a b → cases_in_branches b ≡ cases_in_branches a
  same_branch_cases closed b h = ap cases_in_branches h
  same_branch_cases (others a) b h = ap cases_in_branches h.1 ∙ same_cases a h.0 h.2
  same_branch_cases (listed here a more) b h = ap cases_in_branches h.2 ∙ (λ j. same_cases a h.0 h.3.0 j + same_branch_cases more h.1 h.3.1 j)

mutual
  lists : (a b : Statements) → AreFreeStatements a b → ListsStates a → ListsStates b
  lists finish b h k = subst ListsStates (sym h) tt
  lists (assign a rest) b h k = subst ListsStates (sym h.2) (lists rest h.1 h.3.1 k)
  lists (choose parts rest) b h k = subst ListsStates (sym h.2) (parts_list parts h.0 h.3.0 k.0, lists rest h.1 h.3.1 k.1)
  lists (select branches rest) b h k = subst ListsStates (sym h.2) (branches_list branches h.0 h.3.0 k.0, lists rest h.1 h.3.1 k.1)

  parts_list : (a b : Parts) → AreFreeParts a b → PartsListStates a → PartsListStates b
  parts_list (only c a) b h k = subst PartsListStates (sym h.1) (lists a h.0 h.2 k)
  parts_list (either c a o) b h k = subst PartsListStates (sym h.2) (lists a h.0 h.3.0 k.0, lists o h.1 h.3.1 k.1)
  parts_list (further c a more) b h k = subst PartsListStates (sym h.2) (lists a h.0 h.3.0 k.0, parts_list more h.1 h.3.1 k.1)

  branches_list : (a b : Branches) → AreFreeBranches a b → BranchesListStates a → BranchesListStates b
  branches_list closed b h k = subst BranchesListStates (sym h) tt
  branches_list (others a) b h k = subst BranchesListStates (sym h.1) (lists a h.0 h.2 k)
  branches_list (listed here a more) b h k = subst BranchesListStates (sym h.2) (k.0, (lists a h.0 h.3.0 k.1.0, branches_list more h.1 h.3.1 k.1.1))

-- ---- what is read and assigned

module _ (f : Fsm) (body : Statements) where
  abbrev high : Fsm
  high = with_body f body

  input : (k : ℕ) → IsInput f k → IsInput high k
  input k h = record { name = h.name; is = h.is; input = h.input }

  reads : (e : Expression) → ReadsInputs f e → ReadsInputs high e
  reads (constant b) h = tt
  reads (variable k) h = input k h
  reads (inverse e) h = reads e h
  reads (pair g a b) h = (reads a h.0, reads b h.1)
  reads (choice c a b) h = (reads c h.0, (reads a h.1.0, reads b h.1.1))

  assignment : (a b : Assignment) → IsFreeAssignment a b → IsAssignmentOf f a → IsAssignmentOf high b
  assignment (output name e) b (inl h) k = subst (IsAssignmentOf high) (sym h) (k.0, reads e k.1)
  assignment (output name e) b (inr h) k = subst (IsAssignmentOf high) (sym h.1) (k.0, tt)
  assignment (next s) b h k = subst (IsAssignmentOf high) (sym h) tt

  mutual
    body_of : (a b : Statements) → AreFreeStatements a b → IsBodyOf f a → IsBodyOf high b
    body_of finish b h k = subst (IsBodyOf high) (sym h) tt
    body_of (assign a rest) b h k = subst (IsBodyOf high) (sym h.2) (assignment a h.0 h.3.0 k.0, body_of rest h.1 h.3.1 k.1)
    body_of (choose parts rest) b h k = subst (IsBodyOf high) (sym h.2) (parts_of parts h.0 h.3.0 k.0, body_of rest h.1 h.3.1 k.1)
    body_of (select branches rest) b h k = subst (IsBodyOf high) (sym h.2) (branches_of branches h.0 h.3.0 k.0, body_of rest h.1 h.3.1 k.1)

    parts_of : (a b : Parts) → AreFreeParts a b → ArePartsOf f a → ArePartsOf high b
    parts_of (only c a) b h k = subst (ArePartsOf high) (sym h.1) (reads c k.0, body_of a h.0 h.2 k.1)
    parts_of (either c a o) b h k = subst (ArePartsOf high) (sym h.2) (reads c k.0, (body_of a h.0 h.3.0 k.1.0, body_of o h.1 h.3.1 k.1.1))
    parts_of (further c a more) b h k = subst (ArePartsOf high) (sym h.2) (reads c k.0, (body_of a h.0 h.3.0 k.1.0, parts_of more h.1 h.3.1 k.1.1))

    branches_of : (a b : Branches) → AreFreeBranches a b → AreBranchesOf f a → AreBranchesOf high b
    branches_of closed b h k = subst (AreBranchesOf high) (sym h) tt
    branches_of (others a) b h k = subst (AreBranchesOf high) (sym h.1) (body_of a h.0 h.2 k)
    branches_of (listed here a more) b h k = subst (AreBranchesOf high) (sym h.2) (body_of a h.0 h.3.0 k.0, branches_of more h.1 h.3.1 k.1)

module _ (sets : Assignment → Bool) (same : (a b : Assignment) → IsFreeAssignment a b → sets b ≡ sets a) (s : ℕ) where
  mutual
    same_sure : (a b : Statements) → AreFreeStatements a b → sure sets s b ≡ sure sets s a
    same_sure finish b h = ap (sure sets s) h
    same_sure (assign a rest) b h = ap (sure sets s) h.2 ∙ (λ j. same a h.0 h.3.0 j || same_sure rest h.1 h.3.1 j)
    same_sure (choose parts rest) b h = ap (sure sets s) h.2 ∙ (λ j. same_sure_parts parts h.0 h.3.0 j || same_sure rest h.1 h.3.1 j)
    same_sure (select branches rest) b h = ap (sure sets s) h.2 ∙ (λ j. same_sure_branches branches h.0 h.3.0 j || same_sure rest h.1 h.3.1 j)

    same_sure_parts : (a b : Parts) → AreFreeParts a b → sure_parts sets s b ≡ sure_parts sets s a
    same_sure_parts (only c a) b h = ap (sure_parts sets s) h.1
    same_sure_parts (either c a o) b h = ap (sure_parts sets s) h.2 ∙ (λ j. same_sure a h.0 h.3.0 j && same_sure o h.1 h.3.1 j)
    same_sure_parts (further c a more) b h = ap (sure_parts sets s) h.2 ∙ (λ j. same_sure a h.0 h.3.0 j && same_sure_parts more h.1 h.3.1 j)

    same_sure_branches : (a b : Branches) → AreFreeBranches a b → sure_branches sets s b ≡ sure_branches sets s a
    same_sure_branches closed b h = ap (sure_branches sets s) h
    same_sure_branches (others a) b h = ap (sure_branches sets s) h.1 ∙ same_sure a h.0 h.2
    same_sure_branches (listed here a more) b h =
        ap (sure_branches sets s) h.2 ∙ (λ j. if among s here then same_sure a h.0 h.3.0 j else same_sure_branches more h.1 h.3.1 j)

same_sets_next : (a b : Assignment) → IsFreeAssignment a b → sets_next b ≡ sets_next a
same_sets_next (output name e) b (inl h) = ap sets_next h
same_sets_next (output name e) b (inr h) = ap sets_next h.1
same_sets_next (next s) b h = ap sets_next h

same_sets_output : (name : Name) (a b : Assignment) → IsFreeAssignment a b → sets_output name b ≡ sets_output name a
same_sets_output name (output target e) b (inl h) = ap (sets_output name) h
same_sets_output name (output target e) b (inr h) = ap (sets_output name) h.1
same_sets_output name (next s) b h = ap (sets_output name) h

assigned : (f : Fsm) (b : Statements) → AreFreeStatements f.body b → IsAssigned f → IsAssigned (with_body f b)
assigned f b free h = record {
  next_state = λ s l. same_sure sets_next same_sets_next s f.body b free ∙ h.next_state s l;
  outputs = λ s l name i. same_sure (sets_output name) (same_sets_output name) s f.body b free ∙ h.outputs s l name i;
}

pub is_checked : (f : Fsm) (b : Statements) → AreFreeStatements f.body b → IsCheckedFsm f → IsCheckedFsm (with_body f b)
is_checked f b free h = record {
  ports = h.ports;
  supplies = h.supplies;
  clock = h.clock;
  scalar = h.scalar;
  unobserved = h.unobserved;
  some_state = h.some_state;
  few_states = h.few_states;
  different = h.different;
  sound = sound (all_states f) f.body b free h.sound;
  one_case = same_cases f.body b free ∙ h.one_case;
  listed = lists f.body b free h.listed;
  reads = body_of f b f.body b free h.reads;
  assigned = assigned f b free h.assigned;
}

pub both_are_checked : BothAreChecked
both_are_checked low high free = (
  λ checked. subst IsCheckedFsm (sym (high_is low high free)) (is_checked low high.body free.body checked),
  λ c few.
      let count : signals high.body ≡ signals low.body =
      sym (moved_count (port_places low) high.body) ∙ same_signals (port_places low) low.body high.body free.body ∙ moved_count (port_places low) low.body in
      let ports : length high.ports ≡ length low.ports = ap length free.ports in
      omega arith,
)
