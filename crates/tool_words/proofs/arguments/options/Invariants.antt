use Rattle.std.proofs.Common.{◌≡◌, ◌++◌, drop, map}
use Rattle.clap.specs.Words.{rule_of}
use Rattle.tool_words.specs.Arguments.{option_rule}
use Rattle.tool_words.specs.View.{setting_view}
use Rattle.tool_words.proofs.arguments.options.Given as goal

abbrev pub invariant-loop-setting : goal.invariant-loop-setting
invariant-loop-setting l =
    map rule_of l.arguments.items ++ map option_rule (map setting_view (drop l.setting-index l.settings)) ≡ map rule_of l.initial.arguments.items ++ map option_rule (map setting_view l.settings)
