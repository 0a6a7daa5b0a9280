use Rattle.std.proofs.Common.{◌+◌, ◌-◌, ◌*◌, [], ◌∷◌, length, map}
use Rattle.vhdl_token.specs.declared.keyword.Keyword.TheVariants as word
use Rattle.grammar_theory.specs.declared.form.Form.TheVariants as form
use Rattle.grammar_theory.specs.Tokens.{code}
use Rattle.grammar_theory.specs.Outcome.{list_at}
use Rattle.grammar_theory.proofs.Listing.{Listed}
use Rattle.fsm_text.specs.Written.{statement_view}
use Rattle.fsm_text.specs.FsmReading.{further_part_at, statement_at, statement_kinds, inner_at}
use Rattle.fsm_text.specs.Pieces.{part_view, branch_view, listed_list_at}
use Rattle.fsm_text.proofs.Listing as branches
use Rattle.fsm_text.proofs.statements.+statements.Given as goal

abbrev pub decreases-inner : goal.decreases-inner
decreases-inner l = 16 * l.room + 0

abbrev pub decreases-part : goal.decreases-part
decreases-part l = 16 * l.room + 1

abbrev pub decreases-last_part : goal.decreases-last_part
decreases-last_part l = 16 * l.room + 2

abbrev pub decreases-further_part : goal.decreases-further_part
decreases-further_part l = 16 * l.room + 3

abbrev pub decreases-further_parts : goal.decreases-further_parts
decreases-further_parts l = 16 * l.room + 4

abbrev pub decreases-conditional : goal.decreases-conditional
decreases-conditional l = 16 * l.room + 5

abbrev pub decreases-listed_branch : goal.decreases-listed_branch
decreases-listed_branch l = 16 * l.room + 6

abbrev pub decreases-led_branch : goal.decreases-led_branch
decreases-led_branch l = 16 * l.room + 7

abbrev pub decreases-listed_branches : goal.decreases-listed_branches
decreases-listed_branches l = 16 * l.room + 8

abbrev pub decreases-others : goal.decreases-others
decreases-others l = 16 * l.room + 9

abbrev pub decreases-branches : goal.decreases-branches
decreases-branches l = 16 * l.room + 10

abbrev pub decreases-case_statement : goal.decreases-case_statement
decreases-case_statement l = 16 * l.room + 11

abbrev pub decreases-statement : goal.decreases-statement
decreases-statement l = 16 * l.room + 12

abbrev pub decreases-statement_list : goal.decreases-statement_list
decreases-statement_list l = 16 * l.room + 13

abbrev pub decreases-body : goal.decreases-body
decreases-body l = 16 * l.room + 14

abbrev pub invariant-further_parts-loop-cursor : goal.invariant-further_parts-loop-cursor
invariant-further_parts-loop-cursor l = Listed (code (form.Keyword word.Elsif) ∷ []) (further_part_at (l.room - 1) (inner_at l.room)) (map part_view l.parts.items) l.cursor
    (list_at (code (form.Keyword word.Elsif) ∷ []) (further_part_at (l.room - 1) (inner_at l.room)) l.initial.cursor)

abbrev pub decreases-further_parts-loop-cursor : goal.decreases-further_parts-loop-cursor
decreases-further_parts-loop-cursor l = length l.cursor.rest

abbrev pub invariant-listed_branches-loop-cursor : goal.invariant-listed_branches-loop-cursor
invariant-listed_branches-loop-cursor l = branches.Listed (inner_at l.room) (map branch_view l.branches.items) l.cursor (listed_list_at (inner_at l.room) l.initial.cursor)

abbrev pub decreases-listed_branches-loop-cursor : goal.decreases-listed_branches-loop-cursor
decreases-listed_branches-loop-cursor l = length l.cursor.rest

abbrev pub invariant-statement_list-loop-cursor : goal.invariant-statement_list-loop-cursor
invariant-statement_list-loop-cursor l = Listed statement_kinds (statement_at l.room (inner_at l.room)) (map statement_view l.statements.items) l.cursor
    (list_at statement_kinds (statement_at l.room (inner_at l.room)) l.initial.cursor)

abbrev pub decreases-statement_list-loop-cursor : goal.decreases-statement_list-loop-cursor
decreases-statement_list-loop-cursor l = length l.cursor.rest
