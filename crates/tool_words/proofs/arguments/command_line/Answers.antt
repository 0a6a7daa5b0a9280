use Rattle.std.proofs.Common.{◌≡◌, ◌++◌, List, map, ap, ap₂, ◌∙◌}
use Rattle.std.specs.Prelude.{true}
use Rattle.clap.specs.Words.{App, Rule, rule_of}
use Rattle.clap.specs.Simple.{Shape, on_top}
use Rattle.tool_words.specs.Arguments.{source_rules, option_rule}
use Rattle.tool_words.specs.View.{settings_view, texts_view}
use Rattle.tool_words.proofs.CommandLines.{all_simple, simple_rules, with_rules, added, without_name, without_help}
use Rattle.tool_words.proofs.arguments.command_line.Goals as goal

pub returns : goal.returns
returns c =
    let named = without_name _ _ c.no_binary_name.ensures ∙ ap (λ (a : App). on_top (λ (s : Shape). record s { no_binary_name = true }) a) c.new.ensures.app in
    let made = without_help _ _ c.disable_help_flag-command.ensures ∙ ap (λ (a : App). on_top (λ (s : Shape). record s { disable_help_flag = true }) a) named in
    let rules : map rule_of c.in_ok-arguments.arguments.items ≡ source_rules (texts_view c.args.entry.endings.now) ++ map option_rule (settings_view c.args.entry.settings.now) =
    c.in_ok-arguments.ensures ∙ ap (λ (first : List Rule). first ++ map option_rule (settings_view c.args.entry.settings.now)) c.in_ok-source.ensures in
    added c.disable_help_flag-command.result c.in_ok-args.field-0 c.in_ok-arguments.arguments.items
    (ap all_simple rules ∙ simple_rules (texts_view c.args.entry.endings.now) (settings_view c.args.entry.settings.now)) c.in_ok-args.ensures
    ∙ ap₂ with_rules made rules
