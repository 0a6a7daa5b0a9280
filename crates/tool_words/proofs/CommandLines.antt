-- The command line that the code builds is that of the tool's entry.
use Rattle.std.proofs.Common.{◌≡◌, ℕ, Bool, true, false, ◌&&◌, not, is_some, List, [], ◌∷◌, ◌++◌, map, refl, sym, ◌∙◌, ap, append_assoc}
use Rattle.std.proofs.lemmas.List.{append-nil}
use Rattle.std.specs.List.{list_all}
use Rattle.clap.specs.Words.{App, Shape, Rule, app_of, rule_of, AddsArg, AddsInTurn, with_rule}
use Rattle.clap.specs.declared.builder.command.Command.TheViews.{out-Command}
use Rattle.clap.specs.Simple.{app_of_fields, on_top}
use Rattle.clap.specs.Walk.{is_empty, is_simple_arg}
use Rattle.clap.specs.declared.builder.arg.Arg.{Arg}
use Rattle.clap.specs.declared.builder.command.Command.{Command}
use Rattle.clap.proofs.WalkLemmas.{both}
use Rattle.clap.proofs.SimpleLemmas.{is_false}
use Rattle.tool_words.specs.Table.{Setting}
use Rattle.tool_words.specs.Arguments.{source_rules, option_rule}

abbrev pub all_simple : List Rule → Bool
all_simple rules = list_all (λ (r : Rule). r.is_simple) rules

simple_options : (settings : List Setting) → all_simple (map option_rule settings) ≡ true
simple_options [] = refl
simple_options (s ∷ rest) = simple_options rest

pub simple_rules : (endings : List (List ℕ)) (settings : List Setting) → all_simple (source_rules endings ++ map option_rule settings) ≡ true
simple_rules [] settings = simple_options settings
simple_rules (e ∷ rest) settings = simple_options settings

second : (a b : Bool) → (a && b) ≡ true → b ≡ true
second true b h = h
second false b h = absurd (cc h)

last : (a b c d e f g h i j : Bool) → (a && (b && (c && (d && (e && (f && (g && (h && (i && j))))))))) ≡ true → j ≡ true
last a b c d e f g h i j p = second i j (second h (i && j) (second g (h && (i && j)) (second f (g && (h && (i && j))) (second e (f && (g && (h && (i && j)))) (second d (e && (f && (g && (h && (i && j))))) (second c (d && (e && (f && (g && (h && (i && j)))))) (second b (c && (d && (e && (f && (g && (h && (i && j))))))) (second a (b && (c && (d && (e && (f && (g && (h && (i && j)))))))) p))))))))

-- a simple argument isn't global
local : (a : Arg) → is_simple_arg a ≡ true → a.global ≡ false
local a h = is_false a.global
    (last (is_empty a.overrides.items) (is_empty a.default_vals_ifs.items) (is_empty a.groups.items) (not (is_some a.val_delim)) (not (is_some a.terminator))
    (not a.allow_hyphen_values) (not a.allow_negative_numbers) (not a.require_equals) (not a.last) (not a.global) h)

abbrev pub with_rules : App → List Rule → App
with_rules a rules = on_top (λ (s : Shape). record s { rules = s.rules ++ rules }) a

with_none : (a : App) → with_rules a [] ≡ a
with_none a = ap (λ (rules : List Rule). on_top (λ (s : Shape). record s { rules = rules }) a) (append-nil a.top.rules)

with_more : (a : App) (r : Rule) (rules : List Rule) → with_rules (with_rule a r) rules ≡ with_rules a (r ∷ rules)
with_more a r rules = ap (λ (all : List Rule). on_top (λ (s : Shape). record s { rules = all }) a) (append_assoc a.top.rules (r ∷ []) rules)

-- arguments that are added in turn stand behind those that were there
pub added : (old new : Command) (arguments : List Arg) → all_simple (map rule_of arguments) ≡ true → AddsInTurn AddsArg old arguments new
    → app_of new ≡ with_rules (app_of old) (map rule_of arguments)
added old new [] simple h = ap app_of (sym h) ∙ sym (with_none (app_of old))
added old new (a ∷ rest) simple h =
    let s = both (is_simple_arg a) (all_simple (map rule_of rest)) simple in
    added h.0 new rest s.1 h.2
    ∙ ap (λ (x : App). with_rules x (map rule_of rest)) (h.1.shape (local a s.0))
    ∙ with_more (app_of old) (rule_of a) (map rule_of rest)

pub without_name : (old new : Command) → out-Command new ≡ record (out-Command old) { no_binary_name = true } → app_of new ≡ on_top (λ (s : Shape). record s { no_binary_name = true }) (app_of old)
without_name old new h = ap app_of_fields h

pub without_help : (old new : Command) → out-Command new ≡ record (out-Command old) { disable_help_flag = true } → app_of new ≡ on_top (λ (s : Shape). record s { disable_help_flag = true }) (app_of old)
without_help old new h = ap app_of_fields h
