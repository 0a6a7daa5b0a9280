use Rattle.std.proofs.Common.{rules}
use Rattle.vhdl_token.specs.declared.keyword.Keyword.TheVariants as word
use Rattle.grammar_theory.specs.declared.form.Form.TheVariants as form
use Rattle.pat_text.proofs.Fitting.{among_two}
use Rattle.pat_text.proofs.columns.at_column.Goals as goal

pub returns-then-at : goal.returns-then-at
returns-then-at c = rw (among_two (form.Keyword word.In) (form.Keyword word.Out) c.args.cursor.now.rest) (search rules)

pub returns-else-at : goal.returns-else-at
returns-else-at c = rw (among_two (form.Keyword word.In) (form.Keyword word.Out) c.args.cursor.now.rest) (search rules)
