-- Whether a target is assigned on each path of ifs, for each state.
use Rattle.std.specs.Prelude.{◌≡◌, ℕ, Bool, true, false, ◌&&◌, ◌||◌, List, [], ◌∷◌, ◌++◌, map, ◌<◌, length, Some, IsSome, if◌then◌else◌}
use Rattle.std.specs.List.{flat_map, list_all, Contains}
use Rattle.bool_expr.specs.Support.{among}
use Rattle.vlsi_base.specs.declared.name.Name.{Name}
use Rattle.machine_core.specs.Named.{is_same_name}
use Rattle.fsm_machine.specs.Fsm.{Fsm, fsm_outputs, walked_next, walked_output}
use Rattle.fsm_machine.specs.Statements.{Assignment, output, next, Statements, finish, assign, choose, select, Parts, only, either, further, Branches, closed, others, listed}

-- each path of the first list goes on as each of the second
abbrev pub joined : List Bool → List Bool → List Bool
joined xs ys = flat_map (λ x. map (λ y. x || y) ys) xs

-- for a state: of each path of ifs through the statements, whether it assigns the target (`sets` says which assignments do)
abbrev mutual
  pub paths : (Assignment → Bool) → ℕ → Statements → List Bool
  paths sets s finish = false ∷ []
  paths sets s (assign a rest) = joined (sets a ∷ []) (paths sets s rest)
  paths sets s (choose parts rest) = joined (part_paths sets s parts) (paths sets s rest)
  paths sets s (select branches rest) = joined (branch_paths sets s branches) (paths sets s rest)

  pub part_paths : (Assignment → Bool) → ℕ → Parts → List Bool
  part_paths sets s (only c a) = paths sets s a ++ (false ∷ [])
  part_paths sets s (either c a b) = paths sets s a ++ paths sets s b
  part_paths sets s (further c a more) = paths sets s a ++ part_paths sets s more

  pub branch_paths : (Assignment → Bool) → ℕ → Branches → List Bool
  branch_paths sets s closed = false ∷ []
  branch_paths sets s (others a) = paths sets s a
  branch_paths sets s (listed states a more) = if among s states then paths sets s a else branch_paths sets s more

-- for a state: whether each path assigns the target, without the paths
abbrev mutual
  pub sure : (Assignment → Bool) → ℕ → Statements → Bool
  sure sets s finish = false
  sure sets s (assign a rest) = sets a || sure sets s rest
  sure sets s (choose parts rest) = sure_parts sets s parts || sure sets s rest
  sure sets s (select branches rest) = sure_branches sets s branches || sure sets s rest

  pub sure_parts : (Assignment → Bool) → ℕ → Parts → Bool
  sure_parts sets s (only c a) = false
  sure_parts sets s (either c a b) = sure sets s a && sure sets s b
  sure_parts sets s (further c a more) = sure sets s a && sure_parts sets s more

  pub sure_branches : (Assignment → Bool) → ℕ → Branches → Bool
  sure_branches sets s closed = false
  sure_branches sets s (others a) = sure sets s a
  sure_branches sets s (listed states a more) = if among s states then sure sets s a else sure_branches sets s more

-- the recursion answers for all paths
abbrev pub SureIsAllPaths : Type 0
SureIsAllPaths =
    (sets : Assignment → Bool) (s : ℕ) (body : Statements) → sure sets s body ≡ list_all (λ assigned. assigned) (paths sets s body)

-- whether an assignment sets the next state
abbrev pub sets_next : Assignment → Bool
sets_next (output name e) = false
sets_next (next s) = true

-- whether an assignment sets this output bit
abbrev pub sets_output : Name → Assignment → Bool
sets_output name (output target e) = is_same_name target name
sets_output name (next s) = false

-- on each path of ifs, with each state, the next state and each output bit are assigned
pub record IsAssigned (f : Fsm) : Type 0 where
  pub next_state : (s : ℕ) → s < length f.states → sure sets_next s f.body ≡ true
  pub outputs : (s : ℕ) → s < length f.states
      → (name : Name) → Contains (fsm_outputs f) name → sure (sets_output name) s f.body ≡ true

-- where that holds, the walk with a state knows the next state and each output bit at its end
abbrev pub AssignedIsKnown : Type 0
AssignedIsKnown =
    (f : Fsm) (i : List Bool) (s : ℕ) → IsAssigned f → s < length f.states
    → IsSome (walked_next f i (Some s))
    × ((name : Name) → Contains (fsm_outputs f) name → IsSome (walked_output f i (Some s) name))
