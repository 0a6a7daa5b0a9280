-- Statements over other expressions: each variable is replaced.
use Rattle.std.specs.Prelude.{false, List}
use Rattle.std.specs.List.{slice_index_or}
use Rattle.bool_expr.specs.Expression.{Expression, constant, variable, inverse, pair, choice}
use Rattle.fsm_machine.specs.Statements.{Assignment, output, next, Statements, finish, assign, choose, select, Parts, only, either, further, Branches, closed, others, listed}

-- in place of variable k number k of the list, and 0 past its end
abbrev pub substituted : List Expression → Expression → Expression
substituted es (constant b) = constant b
substituted es (variable k) = slice_index_or es k (constant false)
substituted es (inverse e) = inverse (substituted es e)
substituted es (pair g a b) = pair g (substituted es a) (substituted es b)
substituted es (choice c a b) = choice (substituted es c) (substituted es a) (substituted es b)

-- the same assignment over the other expressions
abbrev pub moved_assignment : List Expression → Assignment → Assignment
moved_assignment es (output name e) = output name (substituted es e)
moved_assignment es (next s) = next s

-- the same statements over the other expressions
abbrev mutual
  pub moved : List Expression → Statements → Statements
  moved es finish = finish
  moved es (assign a rest) = assign (moved_assignment es a) (moved es rest)
  moved es (choose parts rest) = choose (moved_parts es parts) (moved es rest)
  moved es (select branches rest) = select (moved_branches es branches) (moved es rest)

  pub moved_parts : List Expression → Parts → Parts
  moved_parts es (only c a) = only (substituted es c) (moved es a)
  moved_parts es (either c a b) = either (substituted es c) (moved es a) (moved es b)
  moved_parts es (further c a more) = further (substituted es c) (moved es a) (moved_parts es more)

  pub moved_branches : List Expression → Branches → Branches
  moved_branches es closed = closed
  moved_branches es (others a) = others (moved es a)
  moved_branches es (listed states a more) = listed states (moved es a) (moved_branches es more)
