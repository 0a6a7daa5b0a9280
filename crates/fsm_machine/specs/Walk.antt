-- The walk through the statements, with a state or with none: for each target a value, or unknown.
use Rattle.std.specs.Prelude.{ℕ, Bool, false, ◌||◌, List, Option, None, Some, is_some, if◌then◌else◌}
use Rattle.vlsi_base.specs.declared.name.Name.{Name}
use Rattle.bool_expr.specs.Expression.{val}
use Rattle.bool_expr.specs.Support.{among}
use Rattle.machine_core.specs.Named.{is_same_name}
use Rattle.fsm_machine.specs.Statements.{Assignment, output, next, Statements, finish, assign, choose, select, Parts, only, either, further, Branches, closed, others, listed}

-- the value that an assignment gives, and where it gives none, the one before
abbrev pub after : {A : Type 0} → Option A → Option A → Option A
after {A} (Some a) known = Some a
after {A} None known = known

-- whether some assignment sets the target; `given` is what an assignment gives to the target, if it is the target's
abbrev mutual
  pub assigns : {A : Type 0} → (Assignment → Option A) → Statements → Bool
  assigns {A} given finish = false
  assigns {A} given (assign a rest) = is_some (given a) || assigns given rest
  assigns {A} given (choose parts rest) = part_assigns given parts || assigns given rest
  assigns {A} given (select branches rest) = branch_assigns given branches || assigns given rest

  pub part_assigns : {A : Type 0} → (Assignment → Option A) → Parts → Bool
  part_assigns {A} given (only c a) = assigns given a
  part_assigns {A} given (either c a b) = assigns given a || assigns given b
  part_assigns {A} given (further c a more) = assigns given a || part_assigns given more

  pub branch_assigns : {A : Type 0} → (Assignment → Option A) → Branches → Bool
  branch_assigns {A} given closed = false
  branch_assigns {A} given (others a) = assigns given a
  branch_assigns {A} given (listed states a more) = assigns given a || branch_assigns given more

-- whether the state is one of those listed
abbrev pub is_at : Option ℕ → List ℕ → Bool
is_at None states = false
is_at (Some s) states = among s states

-- a `case`: with a state what its branch leaves, with none unknown where some branch assigns the target
abbrev pub cased : {A : Type 0} → Option ℕ → Bool → Option A → Option A → Option A
cased {A} (Some s) touched known walked = walked
cased {A} None touched known walked = if touched then None else known

-- What is known of the target after the statements, where st is a state or none, w has the bits that conditions read, and
-- `known` is what was known before.
abbrev mutual
  pub walk : {A : Type 0} → (Assignment → Option A) → List Bool → Option ℕ → Statements → Option A → Option A
  walk {A} given w st finish known = known
  walk {A} given w st (assign a rest) known = walk given w st rest (after (given a) known)
  walk {A} given w st (choose parts rest) known = walk given w st rest (walk_parts given w st parts known)
  walk {A} given w st (select branches rest) known =
      walk given w st rest (cased st (branch_assigns given branches) known (walk_branches given w st branches known))

  pub walk_parts : {A : Type 0} → (Assignment → Option A) → List Bool → Option ℕ → Parts → Option A → Option A
  walk_parts {A} given w st (only c a) known = if val c w then walk given w st a known else known
  walk_parts {A} given w st (either c a b) known = if val c w then walk given w st a known else walk given w st b known
  walk_parts {A} given w st (further c a more) known =
      if val c w then walk given w st a known else walk_parts given w st more known

  pub walk_branches : {A : Type 0} → (Assignment → Option A) → List Bool → Option ℕ → Branches → Option A → Option A
  walk_branches {A} given w st closed known = known
  walk_branches {A} given w st (others a) known = walk given w st a known
  walk_branches {A} given w st (listed states a more) known =
      if is_at st states then walk given w st a known else walk_branches given w st more known

-- what an assignment gives to the next state
abbrev pub given_next : Assignment → Option ℕ
given_next (output name e) = None
given_next (next s) = Some s

-- what an assignment gives to an output bit
abbrev pub given_output : List Bool → Name → Assignment → Option Bool
given_output w name (output target e) = if is_same_name target name then Some (val e w) else None
given_output w name (next s) = None
