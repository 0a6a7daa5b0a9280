-- Statements whose branches list known states, each once, and whose next states are known.
use Rattle.std.specs.Prelude.{◌≡◌, ℕ, true, List}
use Rattle.bool_expr.specs.Support.{among}
use Rattle.fsm_machine.specs.Statements.{Assignment, output, next, Statements, finish, assign, choose, select, Parts, only, either, further, Branches, closed, others, listed}
use Rattle.fsm_machine.specs.Signals.{without}

-- each listed state stands among those that are left
abbrev pub AreLeft : List ℕ → List ℕ → Type 0
AreLeft here left = (s : ℕ) → among s here ≡ true → among s left ≡ true

-- what is assigned to the next state is a known state
abbrev pub IsKnownNext : List ℕ → Assignment → Type 0
IsKnownNext states (output name e) = Unit {0}
IsKnownNext states (next s) = among s states ≡ true

-- The statements of a machine with these states; `left` are those that no earlier branch of the `case` lists.
abbrev mutual
  pub IsSound : List ℕ → Statements → Type 0
  IsSound states finish = Unit {0}
  IsSound states (assign a rest) = IsKnownNext states a × IsSound states rest
  IsSound states (choose parts rest) = ArePartsSound states parts × IsSound states rest
  IsSound states (select branches rest) = AreBranchesSound states states branches × IsSound states rest

  pub ArePartsSound : List ℕ → Parts → Type 0
  ArePartsSound states (only c a) = IsSound states a
  ArePartsSound states (either c a b) = IsSound states a × IsSound states b
  ArePartsSound states (further c a more) = IsSound states a × ArePartsSound states more

  pub AreBranchesSound : List ℕ → List ℕ → Branches → Type 0
  AreBranchesSound states left closed = Unit {0}
  AreBranchesSound states left (others a) = IsSound states a
  AreBranchesSound states left (listed here a more) =
      AreLeft here left × (IsSound states a × AreBranchesSound states (without here left) more)
