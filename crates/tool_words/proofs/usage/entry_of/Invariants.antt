use Rattle.std.proofs.Common.{◌≡◌, drop, map}
use Rattle.std.specs.List.{find}
use Rattle.tool_words.specs.Words.{is_word}
use Rattle.tool_words.specs.Table.{Entry}
use Rattle.tool_words.specs.Usage.{entry_of}
use Rattle.tool_words.specs.View.{entry_view}
use Rattle.tool_words.proofs.usage.entry_of.Given as goal

abbrev pub invariant-loop-entry : goal.invariant-loop-entry
invariant-loop-entry l = find (λ (e : Entry). is_word e.word l.word) (map entry_view (drop l.entry-index l.entries)) ≡ entry_of (map entry_view l.entries) l.word
