-- A state machine with some of its states made one.
use Rattle.std.specs.Prelude.{ℕ, ◌==◌, Bool, List, [], ◌∷◌, map, filter}
use Rattle.std.specs.List.{flat_map, slice_get}
use Rattle.std.specs.Option.{option_to_list}
use Rattle.vlsi_base.specs.declared.name.Name.{Name}
use Rattle.fsm_machine.specs.Statements.{Assignment, output, next, Statements, finish, assign, choose, select, Parts, only, either, further, Branches, closed, others, listed}
use Rattle.fsm_machine.specs.Fsm.{Fsm}
use Rattle.fsm_merge.specs.Numbering.{nth}

-- whether an old state is the one that is kept of those that become one state with it
abbrev pub is_kept : List ℕ → List ℕ → ℕ → Bool
is_kept state_of kept s = nth kept (nth state_of s) == s

-- the new states of those that are kept, in their order
abbrev pub kept_of : List ℕ → List ℕ → List ℕ → List ℕ
kept_of state_of kept states = map (nth state_of) (filter (is_kept state_of kept) states)

-- the new state in place of the old one
abbrev pub merged_assignment : List ℕ → Assignment → Assignment
merged_assignment state_of (output name e) = output name e
merged_assignment state_of (next s) = next (nth state_of s)

-- the branch before the others, where it has a state
abbrev pub with_branch : List ℕ → Statements → Branches → Branches
with_branch [] a more = more
with_branch (s ∷ states) a more = listed (s ∷ states) a more

-- The same statements with new states in place of old ones. A branch keeps those of its states that are kept; one that keeps none
-- is dropped. `others` stays.
abbrev mutual
  pub merged : List ℕ → List ℕ → Statements → Statements
  merged state_of kept finish = finish
  merged state_of kept (assign a rest) = assign (merged_assignment state_of a) (merged state_of kept rest)
  merged state_of kept (choose parts rest) = choose (merged_parts state_of kept parts) (merged state_of kept rest)
  merged state_of kept (select branches rest) = select (merged_branches state_of kept branches) (merged state_of kept rest)

  pub merged_parts : List ℕ → List ℕ → Parts → Parts
  merged_parts state_of kept (only c a) = only c (merged state_of kept a)
  merged_parts state_of kept (either c a b) = either c (merged state_of kept a) (merged state_of kept b)
  merged_parts state_of kept (further c a more) = further c (merged state_of kept a) (merged_parts state_of kept more)

  pub merged_branches : List ℕ → List ℕ → Branches → Branches
  merged_branches state_of kept closed = closed
  merged_branches state_of kept (others a) = others (merged state_of kept a)
  merged_branches state_of kept (listed states a more) =
      with_branch (kept_of state_of kept states) (merged state_of kept a) (merged_branches state_of kept more)

-- the names at these places
abbrev pub names_at : List Name → List ℕ → List Name
names_at names places = flat_map (λ k. option_to_list (slice_get names k)) places

-- the machine of the states that are kept
abbrev pub merged_fsm : Fsm → List ℕ → List ℕ → Fsm
merged_fsm f state_of kept = record {
  name = f.name;
  ports = f.ports;
  clock = f.clock;
  states = names_at f.states kept;
  body = merged state_of kept f.body;
}
