-- What is known of statements while they are written.
use Rattle.std.specs.Prelude.{ℕ, ◌<◌, List, length}
use Rattle.std.specs.List.{All}
use Rattle.bool_expr.specs.Expression.{IsOver}
use Rattle.fsm_machine.specs.Statements.{Assignment, output, next, Statements, finish, assign, choose, select, Parts, only, either, further, Branches, closed, others, listed}
use Rattle.fsm_print.specs.declared.words.Words.{Words}

abbrev pub IsKnownAssignment : Words → Assignment → Type 0
IsKnownAssignment w (output name e) = IsOver e (length w.vars)
IsKnownAssignment w (next s) = s < length w.states

-- a branch lists some states, all known
abbrev pub AreKnownStates : Words → List ℕ → Type 0
AreKnownStates w states = (0 < length states) × All (λ s. s < length w.states) states

-- each variable and each state has a name
abbrev mutual
  pub IsKnownBody : Words → Statements → Type 0
  IsKnownBody w finish = Unit {0}
  IsKnownBody w (assign a rest) = IsKnownAssignment w a × IsKnownBody w rest
  IsKnownBody w (choose parts rest) = AreKnownParts w parts × IsKnownBody w rest
  IsKnownBody w (select branches rest) = AreKnownBranches w branches × IsKnownBody w rest

  pub AreKnownParts : Words → Parts → Type 0
  AreKnownParts w (only c a) = IsOver c (length w.vars) × IsKnownBody w a
  AreKnownParts w (either c a b) = (IsOver c (length w.vars) × IsKnownBody w a) × IsKnownBody w b
  AreKnownParts w (further c a more) = (IsOver c (length w.vars) × IsKnownBody w a) × AreKnownParts w more

  pub AreKnownBranches : Words → Branches → Type 0
  AreKnownBranches w closed = Unit {0}
  AreKnownBranches w (others a) = IsKnownBody w a
  AreKnownBranches w (listed states a more) = (AreKnownStates w states × IsKnownBody w a) × AreKnownBranches w more
