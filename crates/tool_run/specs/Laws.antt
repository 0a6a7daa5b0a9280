-- What holds of all words that spell a command.
use Rattle.std.specs.Prelude.{◌≡◌, ℕ, List, ◌∷◌, Some}
use Rattle.tool_run.specs.declared.words.Command.{Command}
use Rattle.tool_run.specs.Tools.{command_of}
use Rattle.tool_run.specs.Answers.{word_of}

-- the first of them is the word of the command's tool
abbrev pub ToolComesFirst : Type 0
ToolComesFirst = (words : List (List ℕ)) (c : Command) → command_of words ≡ Some c → (rest : List (List ℕ)) × (words ≡ word_of c ∷ rest)
