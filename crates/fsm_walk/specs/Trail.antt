-- The assignments that a walk through statements meets.
use Rattle.std.specs.Prelude.{◌≡◌, ◌<◌, ℕ, Bool, List, [], ◌∷◌, ◌++◌, length, if◌then◌else◌, Option, None, Some}
use Rattle.bool_expr.specs.Expression.{val, bit}
use Rattle.bool_expr.specs.Support.{among}
use Rattle.fsm_machine.specs.Statements.{Assignment, output, next, Statements, finish, assign, choose, select, Parts, only, either, further, Branches, closed, others, listed}

-- with bits w of the ports, in state s, the assignments one after another
abbrev mutual
  pub trail : List Bool → ℕ → Statements → List Assignment
  trail w s finish = []
  trail w s (assign a rest) = a ∷ trail w s rest
  trail w s (choose parts rest) = parts_trail w s parts ++ trail w s rest
  trail w s (select branches rest) = branches_trail w s branches ++ trail w s rest

  pub parts_trail : List Bool → ℕ → Parts → List Assignment
  parts_trail w s (only c a) = if val c w then trail w s a else []
  parts_trail w s (either c a b) = if val c w then trail w s a else trail w s b
  parts_trail w s (further c a more) = if val c w then trail w s a else parts_trail w s more

  pub branches_trail : List Bool → ℕ → Branches → List Assignment
  branches_trail w s closed = []
  branches_trail w s (others a) = trail w s a
  branches_trail w s (listed states a more) = if among s states then trail w s a else branches_trail w s more

-- what the last assignment of a target gives to it; the value before, where none does
abbrev pub given_or : {A : Type 0} → Option A → A → A
given_or None value = value
given_or (Some x) value = x

abbrev pub last_given : {A : Type 0} → (Assignment → Option A) → A → List Assignment → A
last_given given value [] = value
last_given given value (a ∷ rest) = last_given given (given_or (given a) value) rest

-- Each value has become what the assignment gives to its target, or is as it was.
abbrev pub EachGiven : (ℕ → Assignment → Option Bool) → Assignment → List Bool → List Bool → Type 0
EachGiven given a olds news = (length news ≡ length olds) × ((k : ℕ) → k < length olds → bit news k ≡ given_or (given k a) (bit olds k))
