use Rattle.std.proofs.Common.{[], ◌∷◌, true, false}
use Rattle.vhdl_token.specs.declared.keyword.Keyword.TheVariants as word
use Rattle.grammar_theory.specs.declared.form.Form.TheVariants as form
use Rattle.grammar_theory.proofs.Unique as unique
use Rattle.vhdl_front.specs.Entity.{declarations, entity}
use Rattle.vhdl_front.specs.Expression.{expression}
use Rattle.vhdl_front.proofs.Language.{numbers, factor_firsts, expression_lasts}
use Rattle.vhdl_front.specs.EntityReading.{declarations_at, entity_at}
use Rattle.vhdl_front.specs.Reading.{expression_at}
use Rattle.vhdl_front.proofs.Nested.{exact_expression, reading_answers}
use Rattle.vhdl_front.proofs.EntityLanguage.{declarations_answers, entity_answers, exact_declarations, exact_entity, signal_set}
use Rattle.vhdl_front.proofs.laws.one_answer.Goals as goal

pub returns-clause-expression : goal.returns-clause-expression
returns-clause-expression c room = unique.one_answer (expression room) false factor_firsts expression_lasts (exact_expression {P = ⊥} room).shape (expression_at room) (reading_answers room)

pub returns-clause-entity : goal.returns-clause-entity
returns-clause-entity c room = unique.one_answer (entity room) false (numbers (form.Keyword word.Entity ∷ [])) [] (exact_entity room).shape (entity_at room) (entity_answers room)

pub returns-clause-declarations : goal.returns-clause-declarations
returns-clause-declarations c room = unique.one_answer (declarations room) true signal_set signal_set (exact_declarations room).shape (declarations_at room) (declarations_answers room)
