use Rattle.std.proofs.Common.{◌≡◌, ◌++◌, drop, map}
use Rattle.tool_words.specs.Usage.{settings_usage}
use Rattle.tool_words.specs.View.{setting_view}
use Rattle.tool_words.proofs.usage.settings.Given as goal

abbrev pub invariant-loop-item : goal.invariant-loop-item
invariant-loop-item l = l.out ++ settings_usage (map setting_view (drop l.item-index l.items)) ≡ l.initial.out ++ settings_usage (map setting_view l.items)
