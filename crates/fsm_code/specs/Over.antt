-- Statements over numbered ports, and over other numbers.
use Rattle.std.specs.Prelude.{ℕ, List, map}
use Rattle.bool_expr.specs.Expression.{variable, IsOver}
use Rattle.fsm_machine.specs.Statements.{Assignment, output, next, Statements, finish, assign, choose, select, Parts, only, either, further, Branches, closed, others, listed}
use Rattle.fsm_machine.specs.Moved.{moved, moved_parts, moved_branches}

abbrev pub IsAssignmentOver : ℕ → Assignment → Type 0
IsAssignmentOver n (output name e) = IsOver e n
IsAssignmentOver n (next s) = Unit {0}

-- each variable of the statements is below n
abbrev mutual
  pub IsBodyOver : ℕ → Statements → Type 0
  IsBodyOver n finish = Unit {0}
  IsBodyOver n (assign a rest) = IsAssignmentOver n a × IsBodyOver n rest
  IsBodyOver n (choose parts rest) = ArePartsOver n parts × IsBodyOver n rest
  IsBodyOver n (select branches rest) = AreBranchesOver n branches × IsBodyOver n rest

  pub ArePartsOver : ℕ → Parts → Type 0
  ArePartsOver n (only c a) = IsOver c n × IsBodyOver n a
  ArePartsOver n (either c a b) = IsOver c n × (IsBodyOver n a × IsBodyOver n b)
  ArePartsOver n (further c a more) = IsOver c n × (IsBodyOver n a × ArePartsOver n more)

  pub AreBranchesOver : ℕ → Branches → Type 0
  AreBranchesOver n closed = Unit {0}
  AreBranchesOver n (others a) = IsBodyOver n a
  AreBranchesOver n (listed states a more) = IsBodyOver n a × AreBranchesOver n more

-- the statements, where variable k stands as number k of the list
abbrev pub numbered_body : List ℕ → Statements → Statements
numbered_body numbers body = moved (map variable numbers) body

abbrev pub numbered_parts : List ℕ → Parts → Parts
numbered_parts numbers parts = moved_parts (map variable numbers) parts

abbrev pub numbered_branches : List ℕ → Branches → Branches
numbered_branches numbers branches = moved_branches (map variable numbers) branches
