use Rattle.std.proofs.lemmas.Str.{is_utf8-from_IsUtf8}
use Rattle.tool_words.proofs.WordTexts.{not_text}
use Rattle.tool_words.proofs.arguments.as_text.Goals as goal

pub returns-in-Ok-clause-utf8 : goal.returns-in-Ok-clause-utf8
returns-in-Ok-clause-utf8 c = is_utf8-from_IsUtf8 c.args.word.now c.in-Ok.ensures.cases.1

pub returns-in-Err-clause-usage : goal.returns-in-Err-clause-usage
returns-in-Err-clause-usage c usage = not_text c.args.word.now c.in-Err.ensures.cases.0
