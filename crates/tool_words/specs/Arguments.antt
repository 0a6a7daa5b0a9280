-- The words behind a tool's, as `clap` takes them: by one simple command with the arguments of the tool's entry.
use Rattle.std.specs.Prelude.{ℕ, Bool, true, List, [], ◌∷◌, ◌++◌, map, None, Some, is_some, if◌then◌else◌, codes}
use Rattle.clap.specs.Words.{App, Row, Rule, Kinds, new_rule, matches_of, fault_of, is_simple_and_free}
use Rattle.clap.specs.Simple.{new_shape}
use Rattle.clap.specs.declared.builder.action.ArgAction.{ArgAction}
use Rattle.clap.specs.declared.builder.action.ArgAction.TheVariants.{Set, SetTrue}
use Rattle.tool_words.specs.Table.{Form, Flag, Setting, Entry}

-- the name of SOURCE
abbrev pub source : List ℕ
source = codes "source"

-- SOURCE, of a tool that has one, stands by itself
abbrev pub source_rules : List (List ℕ) → List Rule
source_rules [] = []
source_rules (ending ∷ others) = record (new_rule source) { required = true } ∷ []

abbrev pub action_for : Form → ArgAction
action_for Flag = SetTrue
action_for _ = Set

-- an option is spelled by its letter, or else by its name
abbrev pub option_rule : Setting → Rule
option_rule s = record (new_rule s.name) {
  short = s.letter;
  long = if is_some s.letter then None else Some s.name;
  action = Some (action_for s.form);
  required = s.required;
}

-- the tool's word isn't among its words, and it has no help
abbrev pub command_line : Entry → App
command_line e = record {
  top = record (new_shape e.word) {
    rules = source_rules e.endings ++ map option_rule e.settings;
    no_binary_name = true;
    disable_help_flag = true;
  };
  subs = [];
}

-- `clap`'s own clauses are exact for the entry
abbrev pub is_exact : Entry → Bool
is_exact e = is_simple_and_free (command_line e)

-- what words give for SOURCE and for each option
abbrev pub Given : Type 0
Given = List Row

-- what is wrong with the words
unfoldable pub faults : Entry → List (List ℕ) → Kinds
faults e words = fault_of (command_line e) words

-- what they give for each argument, where nothing is wrong
unfoldable pub given : Entry → List (List ℕ) → Given
given e words = matches_of (command_line e) words
