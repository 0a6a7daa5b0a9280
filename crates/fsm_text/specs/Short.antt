-- Each expression of a state machine has at most as many operators as a text may have in one.
use Rattle.source_checks.specs.Operators.{IsShort}
use Rattle.fsm_text.specs.Written.{StatementTree, asserted, assigned, chosen, selected, BodyTree, finish, next, PartsTree, only, either, further, BranchesTree, closed, others, listed, MachineTree}

-- each assertion, each value that is assigned, and each condition is short
abbrev mutual
  pub ShortStatement : StatementTree → Type 0
  ShortStatement (asserted e) = IsShort e
  ShortStatement (assigned target first e) = IsShort e
  ShortStatement (chosen parts) = ShortParts parts
  ShortStatement (selected line called branches) = ShortBranches branches

  pub ShortBody : BodyTree → Type 0
  ShortBody finish = Unit {0}
  ShortBody (next s rest) = ShortStatement s × ShortBody rest

  pub ShortParts : PartsTree → Type 0
  ShortParts (only line c a) = IsShort c × ShortBody a
  ShortParts (either line c a b) = IsShort c × (ShortBody a × ShortBody b)
  ShortParts (further line c a more) = IsShort c × (ShortBody a × ShortParts more)

  pub ShortBranches : BranchesTree → Type 0
  ShortBranches closed = Unit {0}
  ShortBranches (others a) = ShortBody a
  ShortBranches (listed states a more) = ShortBody a × ShortBranches more

-- those of the statements, and the condition of the process at the clock
abbrev pub HasShortExpressions : MachineTree → Type 0
HasShortExpressions m = ShortBody m.step.body × IsShort m.clock.condition
