-- The commands of all tools, and the words that spell them.
use Rattle.std.specs.Prelude.{ℕ, List, [], ◌∷◌, Option, None, Some, option_map, if◌then◌else◌}
use Rattle.tool_words.specs.Words.{is_word}
use Rattle.flow_words.specs.declared.words.FlowCommand.{FlowCommand}
use Rattle.flow_words.specs.declared.words.GenCommand.{GenCommand}
use Rattle.flow_words.specs.Words.{flow, flow_of, gen, gen_of}
use Rattle.tool_run.specs.declared.words.Command.{Command as ToolCommand}
use Rattle.tool_run.specs.Tools.{command_of as tool_command_of}
use Rattle.tool_run.specs.Answers.{word_of as tool_word_of}
use Rattle.flow_run.specs.declared.command.Command.{Command}
use Rattle.flow_run.specs.declared.command.Command.TheVariants as command

-- the command that the words spell: of `flow`, of `gen`, or of another tool
abbrev pub command_of : List (List ℕ) → Option Command
command_of [] = None
command_of (word ∷ words) =
    if is_word flow.word word then option_map command.Flow (flow_of words)
    else if is_word gen.word word then option_map command.Gen (gen_of words)
    else option_map command.Tool (tool_command_of (word ∷ words))

-- the word of a command's tool
abbrev pub word_of : Command → List ℕ
word_of (command.Flow c) = flow.word
word_of (command.Gen c) = gen.word
word_of (command.Tool k) = tool_word_of k

-- ---- what a command is for

abbrev pub as_flow : Option Command → Option FlowCommand
as_flow (Some (command.Flow c)) = Some c
as_flow _ = None

-- the command of `flow` that the words spell
abbrev pub flow_in : List (List ℕ) → Option FlowCommand
flow_in words = as_flow (command_of words)

abbrev pub as_gen : Option Command → Option GenCommand
as_gen (Some (command.Gen c)) = Some c
as_gen _ = None

-- the command of `gen` that they spell
abbrev pub gen_in : List (List ℕ) → Option GenCommand
gen_in words = as_gen (command_of words)

abbrev pub as_tool : Option Command → Option ToolCommand
as_tool (Some (command.Tool k)) = Some k
as_tool _ = None

-- the command of another tool that they spell
abbrev pub tool_in : List (List ℕ) → Option ToolCommand
tool_in words = as_tool (command_of words)
