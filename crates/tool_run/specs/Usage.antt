-- The lines that refusals print, whatever the words.
use Rattle.std.specs.Prelude.{ℕ, List, [], ◌∷◌}
use Rattle.tool_words.specs.Usage.{usage_of}
use Rattle.tool_words.specs.declared.words.WordsError.{WordsError}
use Rattle.tool_words.specs.declared.words.WordsError.TheVariants as words
use Rattle.tool_drive.specs.declared.status.Status.{Status}
use Rattle.tool_drive.specs.declared.status.Status.TheVariants as status
use Rattle.tool_drive.specs.Lines.{line_of as line_of_tool}
use Rattle.tool_run.specs.Tools.{entries}

-- the word that stands first
abbrev pub tool_of : List (List ℕ) → List ℕ
tool_of [] = []
tool_of (tool ∷ _) = tool

-- the line that a refusal prints
abbrev pub line_of : List (List ℕ) → Status → List ℕ
line_of words status.Usage = usage_of entries words
line_of words s = line_of_tool (tool_of words) s

-- the status of words that no command was read from
abbrev pub status_of : WordsError → Status
status_of words.Usage = status.Usage
status_of words.Memory = status.Memory
