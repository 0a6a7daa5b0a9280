use Rattle.std.proofs.Common.{rules, is_some, unwrap_or}
use Rattle.vlsi_base.specs.declared.radix.Radix.TheVariants.{Binary}
use Rattle.grammar_theory.specs.declared.form.Form.TheVariants as form
use Rattle.pat_text.specs.Spelled.{text_of, format_named}
use Rattle.pat_text.specs.Reading.{named_format_at}
use Rattle.pat_text.proofs.Fitting.{fitting}
use Rattle.pat_text.proofs.words.named_format.Goals as goal

pub returns : goal.returns
unfolding named_format_at
returns c =
    fitting form.Identifier (λ t. is_some (format_named (text_of t))) (λ t. unwrap_or (format_named (text_of t)) Binary)
    c.args.cursor.now c.take_fitting.new.self
    c.in-Some.next.now c.in-Some.field-0-1.now c.in_ok-_word._word.now c.is_some.result c.unwrap_or.result
    (search rules) (search rules) (search rules) (search rules)
