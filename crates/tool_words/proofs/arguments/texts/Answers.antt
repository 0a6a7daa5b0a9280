use Rattle.std.proofs.Common.{rules, ◌≡◌, ◌+◌, ◌∷◌, drop, sym, ◌∙◌}
use Rattle.tool_words.proofs.WordTexts.{from_word, text_here, none_here, one_more}
use Rattle.tool_words.proofs.arguments.texts.Goals as goal

pub returns-in_err-text-clause-usage : goal.returns-in_err-text-clause-usage
returns-in_err-text-clause-usage c usage =
    let at : drop c.loop-word.word-index c.args.words.now ≡ c.as_bytes.result.now ∷ drop (c.loop-word.word-index + 1) c.args.words.now = from_word c.args.words.now c.loop-word.word-index c.as_bytes.result.now _ c.loop-word-test.true (c.as_bytes.ensures ∙ c.word-item.is) in
    sym c.loop-word.invariant.text ∙ none_here c.args.words.now c.loop-word.word-index c.as_bytes.result.now at (c.in_err-text.ensures.usage (search rules))

pub loop-word-preserved : goal.loop-word-preserved
loop-word-preserved c =
    let at : drop c.loop-word.word-index c.args.words.now ≡ c.as_bytes.result.now ∷ drop (c.loop-word.word-index + 1) c.args.words.now = from_word c.args.words.now c.loop-word.word-index c.as_bytes.result.now _ c.loop-word-test.true (c.as_bytes.ensures ∙ c.word-item.is) in
    record {
      as_they_are = one_more c.loop-word.texts.items _ c.in_ok-text.text c.args.words.now c.loop-word.word-index c.as_bytes.result.now c.in_ok-push.ensures.items c.in_ok-text.ensures.ok at c.loop-word.invariant.as_they_are;
      text = text_here c.args.words.now c.loop-word.word-index c.as_bytes.result.now at c.in_ok-text.ensures.utf8 ∙ c.loop-word.invariant.text;
    }
