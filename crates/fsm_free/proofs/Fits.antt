-- What is asked of a text holds with a bit in place of each free one.
use Rattle.std.proofs.Common.{◌≡◌, ◌≤◌, ℕ, Bool, true, false, List, length, Option, None, Some, arith, refl}
use Rattle.vlsi_base.specs.declared.limits.TheConstants.{MOST_SOURCE_BYTES}
use Rattle.vlsi_base.specs.Tree.{Tree}
use Rattle.vhdl_token.specs.declared.token.Tokens.{Tokens}
use Rattle.source_checks.specs.Operators.{IsShort}
use Rattle.fsm_text.specs.Written.{StatementTree, asserted, assigned, chosen, selected, BodyTree, finish, next, PartsTree, only, either, further, BranchesTree, closed, others, listed, MachineTree}
use Rattle.fsm_text.specs.Short.{ShortStatement, ShortBody, ShortParts, ShortBranches, HasShortExpressions}
use Rattle.fsm_text.specs.Texts.{IsMachine}
use Rattle.fsm_io.specs.Listed.{HasStates, StatementHasStates, PartsHaveStates, BranchesHaveStates}
use Rattle.fsm_io.proofs.Listed.{has_state, lists_states}
use Rattle.free_tokens.specs.Filled.{free_line, filled_with, filled_value}
use Rattle.fsm_free.specs.Filled.{filled_statement, filled_body, filled_parts, filled_branches, filled}
use Rattle.fsm_free.specs.Pieces.{MayBeChecked}
use Rattle.fsm_free.proofs.Declared.{few_states, few_declared}

mutual
  states_body : (b : Bool) (t : BodyTree) → HasStates t → HasStates (filled_body b t)
  states_body b finish h = tt
  states_body b (next s rest) h = (states_statement b s h.0, states_body b rest h.1)

  states_statement : (b : Bool) (s : StatementTree) → StatementHasStates s → StatementHasStates (filled_statement b s)
  states_statement b (asserted e) h = tt
  states_statement b (assigned t first e) h = tt
  states_statement b (chosen parts) h = states_parts b parts h
  states_statement b (selected line called branches) h = states_branches b branches h

  states_parts : (b : Bool) (p : PartsTree) → PartsHaveStates p → PartsHaveStates (filled_parts b p)
  states_parts b (only line c a) h = states_body b a h
  states_parts b (either line c a d) h = (states_body b a h.0, states_body b d h.1)
  states_parts b (further line c a more) h = (states_body b a h.0, states_parts b more h.1)

  states_branches : (b : Bool) (t : BranchesTree) → BranchesHaveStates t → BranchesHaveStates (filled_branches b t)
  states_branches b closed h = tt
  states_branches b (others a) h = states_body b a h
  states_branches b (listed names a more) h = (h.0, (states_body b a h.1.0, states_branches b more h.1.1))

short_value : (b : Bool) (e : Tree) → IsShort e → IsShort (filled_value b e)
short_value b e h = by (free_line e) where
  by : (o : Option ℕ) → IsShort (filled_with b e o)
  by None = h
  by (Some line) = omega arith

mutual
  short_body : (b : Bool) (t : BodyTree) → ShortBody t → ShortBody (filled_body b t)
  short_body b finish h = tt
  short_body b (next s rest) h = (short_statement b s h.0, short_body b rest h.1)

  short_statement : (b : Bool) (s : StatementTree) → ShortStatement s → ShortStatement (filled_statement b s)
  short_statement b (asserted e) h = h
  short_statement b (assigned t first e) h = short_value b e h
  short_statement b (chosen parts) h = short_parts b parts h
  short_statement b (selected line called branches) h = short_branches b branches h

  short_parts : (b : Bool) (p : PartsTree) → ShortParts p → ShortParts (filled_parts b p)
  short_parts b (only line c a) h = (h.0, short_body b a h.1)
  short_parts b (either line c a d) h = (h.0, (short_body b a h.1.0, short_body b d h.1.1))
  short_parts b (further line c a more) h = (h.0, (short_body b a h.1.0, short_parts b more h.1.1))

  short_branches : (b : Bool) (t : BranchesTree) → ShortBranches t → ShortBranches (filled_branches b t)
  short_branches b closed h = tt
  short_branches b (others a) h = short_body b a h
  short_branches b (listed names a more) h = (short_body b a h.0, short_branches b more h.1)

pub may_be_filled : (b : Bool) (m : MachineTree) → MayBeChecked m → MayBeChecked (filled b m)
may_be_filled b m h = record {
  some_state = h.some_state;
  few_bits = h.few_bits;
  few = h.few;
  listed = states_body b m.step.body h.listed;
  short = (short_body b m.step.body h.short.0, h.short.1);
}

pub may_be_checked : (tokens : Tokens) (m : MachineTree) → length tokens.items ≤ MOST_SOURCE_BYTES → IsMachine tokens m → HasShortExpressions m → MayBeChecked m
may_be_checked tokens m few h short = record {
  some_state = has_state tokens m h;
  few_bits = few_declared tokens m few h;
  few = few_states tokens m few h;
  listed = lists_states tokens m h;
  short = short;
}
