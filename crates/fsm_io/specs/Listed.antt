-- Statements whose branches list states, as the grammar asks for.
use Rattle.std.specs.Prelude.{◌<◌, length}
use Rattle.fsm_text.specs.Written.{StatementTree, asserted, assigned, chosen, selected, BodyTree, finish, next, PartsTree, only, either, further, BranchesTree, closed, others, listed}

-- each branch lists a state
abbrev mutual
  pub HasStates : BodyTree → Type 0
  HasStates finish = Unit {0}
  HasStates (next s rest) = StatementHasStates s × HasStates rest

  pub StatementHasStates : StatementTree → Type 0
  StatementHasStates (asserted e) = Unit {0}
  StatementHasStates (assigned t line e) = Unit {0}
  StatementHasStates (chosen parts) = PartsHaveStates parts
  StatementHasStates (selected line called branches) = BranchesHaveStates branches

  pub PartsHaveStates : PartsTree → Type 0
  PartsHaveStates (only line c a) = HasStates a
  PartsHaveStates (either line c a b) = HasStates a × HasStates b
  PartsHaveStates (further line c a more) = HasStates a × PartsHaveStates more

  pub BranchesHaveStates : BranchesTree → Type 0
  BranchesHaveStates closed = Unit {0}
  BranchesHaveStates (others a) = HasStates a
  BranchesHaveStates (listed names a more) = (0 < length names) × (HasStates a × BranchesHaveStates more)
