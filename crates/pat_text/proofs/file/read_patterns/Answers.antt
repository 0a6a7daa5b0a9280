use Rattle.std.proofs.Common.{rules, ◌≡◌, ◌∙◌, ap, Ok, Err}
use Rattle.grammar_theory.specs.Outcome.{start, finish}
use Rattle.pat_text.specs.Reading.{file_at}
use Rattle.pat_text.proofs.Right.{is_file, is_refused}
use Rattle.pat_text.proofs.file.read_patterns.Goals as goal

pub returns-in-Ok-clause-read : goal.returns-in-Ok-clause-read
returns-in-Ok-clause-read c =
    let read : finish (file_at c.new-cursor.result) ≡ Ok (c.in-Ok.parsed, c.whole_file.new.cursor) = search rules in
    is_file c.new-cursor.result c.args.tokens.now.items c.in-Ok.parsed c.whole_file.new.cursor (c.new-cursor.ensures ∙ ap start c.as_slice.ensures) read

pub returns-clause-refused : goal.returns-clause-refused
returns-clause-refused c =
    let read : finish (file_at c.new-cursor.result) ≡ Err c.in-Err-Refused.refusal = search rules in
    is_refused c.args.tokens.now c.new-cursor.result c.in-Err-Refused.refusal c.syntax.result (c.new-cursor.ensures ∙ ap start c.as_slice.ensures) read c.syntax.ensures
