-- The words of `boom`, and what they ask of it.
use Rattle.std.specs.Prelude.{ℕ, List, [], ◌∷◌, Option, None, Some, codes}
use Rattle.tool_words.specs.Table.{Entry, out, nodes}
use Rattle.tool_words.specs.Arguments.{Given}
use Rattle.tool_words.specs.Values.{source_of, text_of, number_of}
use Rattle.boom_run.specs.declared.words.BoomCommand.{BoomCommand}

abbrev pub boom : Entry
boom = record { word = codes "boom"; endings = codes ".vbe" ∷ []; settings = out ∷ nodes ∷ [] }

-- the command of its values: none where one of them isn't there, or isn't of its form
abbrev pub boom_with : Option (List ℕ) → Option (List ℕ) → Option ℕ → Option BoomCommand
boom_with (Some source) (Some out) (Some nodes) = Some (record { source = source; out = out; nodes = nodes })
boom_with _ _ _ = None

abbrev pub boom_from : Given → Option BoomCommand
boom_from g = boom_with (source_of boom.endings g) (text_of out g) (number_of nodes g)
