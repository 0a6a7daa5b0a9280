use Rattle.std.proofs.Common.{◌≡◌, ◌++◌, drop}
use Rattle.tool_words.specs.Usage.{more_endings}
use Rattle.tool_words.specs.View.{texts_view}
use Rattle.tool_words.proofs.usage.more_endings.Given as goal

abbrev pub invariant-loop-ending : goal.invariant-loop-ending
invariant-loop-ending l = l.out ++ more_endings (texts_view (drop l.ending-index l.endings)) ≡ l.initial.out ++ more_endings (texts_view l.endings)
