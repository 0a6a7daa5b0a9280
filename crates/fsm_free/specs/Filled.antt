-- A state machine with a bit in place of each that it leaves free.
use Rattle.std.specs.Prelude.{Bool}
use Rattle.free_tokens.specs.Filled.{filled_value}
use Rattle.fsm_text.specs.Written.{StatementTree, asserted, assigned, chosen, selected, BodyTree, finish, next, PartsTree, only, either, further, BranchesTree, closed, others, listed, StepTree, MachineTree}

-- a free bit is all that is assigned
abbrev mutual
  pub filled_statement : Bool → StatementTree → StatementTree
  filled_statement b (asserted e) = asserted e
  filled_statement b (assigned target first e) = assigned target first (filled_value b e)
  filled_statement b (chosen parts) = chosen (filled_parts b parts)
  filled_statement b (selected line name branches) = selected line name (filled_branches b branches)

  pub filled_body : Bool → BodyTree → BodyTree
  filled_body b finish = finish
  filled_body b (next s rest) = next (filled_statement b s) (filled_body b rest)

  pub filled_parts : Bool → PartsTree → PartsTree
  filled_parts b (only line c a) = only line c (filled_body b a)
  filled_parts b (either line c a other) = either line c (filled_body b a) (filled_body b other)
  filled_parts b (further line c a more) = further line c (filled_body b a) (filled_parts b more)

  pub filled_branches : Bool → BranchesTree → BranchesTree
  filled_branches b closed = closed
  filled_branches b (others a) = others (filled_body b a)
  filled_branches b (listed states a more) = listed states (filled_body b a) (filled_branches b more)

abbrev pub filled_step : Bool → StepTree → StepTree
filled_step b step = record step { body = filled_body b step.body }

abbrev pub filled : Bool → MachineTree → MachineTree
filled b m = record m { step = filled_step b m.step }
