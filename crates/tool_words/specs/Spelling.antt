-- What words spell, by the table of tools.
use Rattle.std.specs.Prelude.{ℕ, Bool, ◌&&◌, List, [], ◌∷◌, Option, None, Some, option_map, if◌then◌else◌}
use Rattle.std.specs.List.{find, list_all}
use Rattle.std.specs.Str.{is_utf8}
use Rattle.clap.specs.Walk.{is_empty}
use Rattle.tool_words.specs.Words.{is_word}
use Rattle.tool_words.specs.Table.{Entry}
use Rattle.tool_words.specs.Arguments.{Given, faults, given}

-- the words are text, and nothing is wrong with them
abbrev pub are_taken : Entry → List (List ℕ) → Bool
are_taken e words = list_all is_utf8 words && is_empty (faults e words)

-- what is made of the values that the words behind a tool's give, where they are taken
abbrev pub spelled : {A : Type 0} → Entry → (Given → Option A) → List (List ℕ) → Option A
spelled e f words = if are_taken e words then f (given e words) else None

-- a tool among others: its entry, and the command that words behind its word spell
pub record Tool (A : Type 0) : Type 0 where
  pub entry : Entry
  pub command : List (List ℕ) → Option A

-- a tool whose commands are among those of several tools, by what is made of the values
abbrev pub tool : {A B : Type 0} → Entry → (A → B) → (Given → Option A) → Tool B
tool e make asked = record { entry = e; command = λ words. option_map make (spelled e asked words) }

-- the tool with this word
abbrev pub tool_named : {A : Type 0} → List (Tool A) → List ℕ → Option (Tool A)
tool_named tools word = find (λ t. is_word t.entry.word word) tools

abbrev pub command_by : {A : Type 0} → Option (Tool A) → List (List ℕ) → Option A
command_by None words = None
command_by (Some t) words = t.command words

-- the command that the words spell: the first of them is a tool's, and the others are taken by its entry
abbrev pub command_in : {A : Type 0} → List (Tool A) → List (List ℕ) → Option A
command_in tools [] = None
command_in tools (word ∷ words) = command_by (tool_named tools word) words
