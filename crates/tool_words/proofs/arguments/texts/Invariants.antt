use Rattle.std.proofs.Common.{◌≡◌, ◌++◌, drop, map}
use Rattle.std.specs.List.{list_all}
use Rattle.std.specs.Str.{is_utf8}
use Rattle.tool_words.proofs.arguments.texts.Given as goal

abbrev pub invariant-loop-word : goal.invariant-loop-word
invariant-loop-word l = record {
  as_they_are : map (λ text. text.now) l.texts.items ++ drop l.word-index l.words ≡ l.words;
  text : list_all is_utf8 (drop l.word-index l.words) ≡ list_all is_utf8 l.words;
}
