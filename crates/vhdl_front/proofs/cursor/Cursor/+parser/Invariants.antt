use Rattle.std.proofs.Common.{◌+◌, ◌*◌, [], ◌∷◌, length, map}
use Rattle.vlsi_base.specs.Tree.{operand_of}
use Rattle.vhdl_token.specs.declared.token.Sign.TheVariants as sign
use Rattle.grammar_theory.specs.declared.form.Form.TheVariants as form
use Rattle.grammar_theory.specs.Tokens.{code}
use Rattle.grammar_theory.specs.Outcome.{list_at, with_front}
use Rattle.grammar_theory.proofs.Listing.{Listed}
use Rattle.vhdl_front.specs.Reading.{joined_at, factor_at, relation_at, enter_at}
use Rattle.vhdl_front.proofs.cursor.Cursor.+parser.Given as goal

abbrev pub decreases-parenthesized : goal.decreases-parenthesized
decreases-parenthesized l = 32 * l.room + 0

abbrev pub decreases-primary : goal.decreases-primary
decreases-primary l = 32 * l.room + 1

abbrev pub decreases-inverse : goal.decreases-inverse
decreases-inverse l = 32 * l.room + 2

abbrev pub decreases-factor : goal.decreases-factor
decreases-factor l = 32 * l.room + 3

abbrev pub decreases-joined_factor : goal.decreases-joined_factor
decreases-joined_factor l = 32 * l.room + 4

abbrev pub decreases-more_factors : goal.decreases-more_factors
decreases-more_factors l = 32 * l.room + 5

abbrev pub decreases-cat : goal.decreases-cat
decreases-cat l = 32 * l.room + 6

abbrev pub decreases-comparison : goal.decreases-comparison
decreases-comparison l = 32 * l.room + 7

abbrev pub decreases-compared : goal.decreases-compared
decreases-compared l = 32 * l.room + 8

abbrev pub decreases-relation : goal.decreases-relation
decreases-relation l = 32 * l.room + 9

abbrev pub decreases-joined_relation : goal.decreases-joined_relation
decreases-joined_relation l = 32 * l.room + 10

abbrev pub decreases-more_relations : goal.decreases-more_relations
decreases-more_relations l = 32 * l.room + 11

abbrev pub decreases-chain : goal.decreases-chain
decreases-chain l = 32 * l.room + 12

abbrev pub decreases-pair : goal.decreases-pair
decreases-pair l = 32 * l.room + 13

abbrev pub decreases-logical : goal.decreases-logical
decreases-logical l = 32 * l.room + 14

abbrev pub decreases-expression : goal.decreases-expression
decreases-expression l = 32 * l.room + 15

abbrev pub invariant-more_factors-loop-self : goal.invariant-more_factors-loop-self
invariant-more_factors-loop-self l = Listed (code (form.Sign sign.Ampersand) ∷ []) (joined_at (form.Sign sign.Ampersand) (factor_at l.room (enter_at l.room))) (map operand_of l.others.items) l.self
    (list_at (code (form.Sign sign.Ampersand) ∷ []) (joined_at (form.Sign sign.Ampersand) (factor_at l.room (enter_at l.room))) l.initial.self)

abbrev pub decreases-more_factors-loop-self : goal.decreases-more_factors-loop-self
decreases-more_factors-loop-self l = length l.self.rest

abbrev pub invariant-more_relations-loop-form : goal.invariant-more_relations-loop-form
invariant-more_relations-loop-form l = Listed (code l.form ∷ []) (joined_at l.form (relation_at l.room (enter_at l.room))) (map operand_of l.others.items) l.self
    (with_front (operand_of l.fn.first ∷ []) (list_at (code l.form ∷ []) (joined_at l.form (relation_at l.room (enter_at l.room))) l.initial.self))

abbrev pub decreases-more_relations-loop-form : goal.decreases-more_relations-loop-form
decreases-more_relations-loop-form l = length l.self.rest
