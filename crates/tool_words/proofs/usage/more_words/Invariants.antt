use Rattle.std.proofs.Common.{◌≡◌, ◌++◌, drop, map}
use Rattle.tool_words.specs.Usage.{more_words}
use Rattle.tool_words.specs.View.{entry_view}
use Rattle.tool_words.proofs.usage.more_words.Given as goal

abbrev pub invariant-loop-entry : goal.invariant-loop-entry
invariant-loop-entry l = l.out ++ more_words (map entry_view (drop l.entry-index l.entries)) ≡ l.initial.out ++ more_words (map entry_view l.entries)
