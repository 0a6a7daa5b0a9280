-- What is known of each state machine that passed its checks.
use Rattle.std.specs.Prelude.{◌≡◌, ℕ, suc, ◌+◌, ◌<◌, ◌≤◌, length, slice_get, Some, None}
use Rattle.std.specs.List.{All, Contains}
use Rattle.vlsi_base.specs.declared.name.Name.{Name}
use Rattle.vlsi_base.specs.Member.{AllDifferent}
use Rattle.bool_expr.specs.Expression.{Expression, constant, variable, inverse, pair, choice}
use Rattle.machine_core.specs.Machine.{names_of}
use Rattle.machine_core.specs.Checked.{AreInOrder, IsNoSupply}
use Rattle.fsm_machine.specs.Statements.{Assignment, output, next, Statements, finish, assign, choose, select, Parts, only, either, further, Branches, closed, others, listed}
use Rattle.fsm_machine.specs.Fsm.{Fsm, fsm_inputs, fsm_outputs}
use Rattle.fsm_machine.specs.Assigned.{IsAssigned}
use Rattle.fsm_machine.specs.Sound.{IsSound}
use Rattle.fsm_machine.specs.MachineOf.{all_states}

-- the most states that a state machine may have
abbrev pub most_states : ℕ
most_states = 256

-- number k of the ports is an input, and not the clock
pub record IsInput (f : Fsm) (k : ℕ) : Type 0 where
  pub name : Name
  pub is : slice_get (names_of f.ports) k ≡ Some name
  pub input : Contains (fsm_inputs f) name

-- an expression reads inputs other than the clock
abbrev pub ReadsInputs : Fsm → Expression → Type 0
ReadsInputs f (constant b) = Unit {0}
ReadsInputs f (variable k) = IsInput f k
ReadsInputs f (inverse e) = ReadsInputs f e
ReadsInputs f (pair g a b) = ReadsInputs f a × ReadsInputs f b
ReadsInputs f (choice c a b) = ReadsInputs f c × (ReadsInputs f a × ReadsInputs f b)

-- what is assigned is an output bit, by an expression that reads inputs, or the next state
abbrev pub IsAssignmentOf : Fsm → Assignment → Type 0
IsAssignmentOf f (output name e) = Contains (fsm_outputs f) name × ReadsInputs f e
IsAssignmentOf f (next s) = Unit {0}

abbrev mutual
  pub IsBodyOf : Fsm → Statements → Type 0
  IsBodyOf f finish = Unit {0}
  IsBodyOf f (assign a rest) = IsAssignmentOf f a × IsBodyOf f rest
  IsBodyOf f (choose parts rest) = ArePartsOf f parts × IsBodyOf f rest
  IsBodyOf f (select branches rest) = AreBranchesOf f branches × IsBodyOf f rest

  pub ArePartsOf : Fsm → Parts → Type 0
  ArePartsOf f (only c a) = ReadsInputs f c × IsBodyOf f a
  ArePartsOf f (either c a b) = ReadsInputs f c × (IsBodyOf f a × IsBodyOf f b)
  ArePartsOf f (further c a more) = ReadsInputs f c × (IsBodyOf f a × ArePartsOf f more)

  pub AreBranchesOf : Fsm → Branches → Type 0
  AreBranchesOf f closed = Unit {0}
  AreBranchesOf f (others a) = IsBodyOf f a
  AreBranchesOf f (listed states a more) = IsBodyOf f a × AreBranchesOf f more

-- how many cases stand in the statements, in ifs and in branches too
abbrev mutual
  pub cases_in : Statements → ℕ
  cases_in finish = 0
  cases_in (assign a rest) = cases_in rest
  cases_in (choose parts rest) = cases_in_parts parts + cases_in rest
  cases_in (select branches rest) = suc (cases_in_branches branches + cases_in rest)

  pub cases_in_parts : Parts → ℕ
  cases_in_parts (only c a) = cases_in a
  cases_in_parts (either c a b) = cases_in a + cases_in b
  cases_in_parts (further c a more) = cases_in a + cases_in_parts more

  pub cases_in_branches : Branches → ℕ
  cases_in_branches closed = 0
  cases_in_branches (others a) = cases_in a
  cases_in_branches (listed states a more) = cases_in a + cases_in_branches more

-- each branch lists a state, and none twice
abbrev mutual
  pub ListsStates : Statements → Type 0
  ListsStates finish = Unit {0}
  ListsStates (assign a rest) = ListsStates rest
  ListsStates (choose parts rest) = PartsListStates parts × ListsStates rest
  ListsStates (select branches rest) = BranchesListStates branches × ListsStates rest

  pub PartsListStates : Parts → Type 0
  PartsListStates (only c a) = ListsStates a
  PartsListStates (either c a b) = ListsStates a × ListsStates b
  PartsListStates (further c a more) = ListsStates a × PartsListStates more

  pub BranchesListStates : Branches → Type 0
  BranchesListStates closed = Unit {0}
  BranchesListStates (others a) = ListsStates a
  BranchesListStates (listed states a more) = ((0 < length states) × AllDifferent states) × (ListsStates a × BranchesListStates more)

-- Its ports stand in the order of names, the clock is one of its inputs and no bit of a range, it has a state and at most 256, and
-- these differ; there is one case, each branch lists a state, only such that are left, and none twice, and each next state is one;
-- expressions read inputs other than the clock; and with each state every path assigns the next state and each output bit.
pub record IsCheckedFsm (f : Fsm) : Type 0 where
  pub ports : AreInOrder (names_of f.ports)
  pub supplies : All IsNoSupply (names_of f.ports)
  pub clock : Contains (names_of f.ports) f.clock
  pub scalar : f.clock.bit ≡ None
  pub unobserved : Contains (fsm_outputs f) f.clock → ⊥
  pub some_state : 0 < length f.states
  pub few_states : length f.states ≤ most_states
  pub different : AllDifferent f.states
  pub sound : IsSound (all_states f) f.body
  pub one_case : cases_in f.body ≡ 1
  pub listed : ListsStates f.body
  pub reads : IsBodyOf f f.body
  pub assigned : IsAssigned f
