-- The words of `loon`, and what they ask of it.
use Rattle.std.specs.Prelude.{ℕ, List, [], ◌∷◌, Option, None, Some, codes}
use Rattle.tool_words.specs.Table.{Entry, library, out, fanout}
use Rattle.tool_words.specs.Arguments.{Given}
use Rattle.tool_words.specs.Values.{source_of, text_of, number_of}
use Rattle.loon_run.specs.declared.words.LoonCommand.{LoonCommand}

abbrev pub loon : Entry
loon = record { word = codes "loon"; endings = codes ".vst" ∷ []; settings = library ∷ out ∷ fanout ∷ [] }

-- the command of its values: none where one of them isn't there, or isn't of its form
abbrev pub loon_with : Option (List ℕ) → Option (List ℕ) → Option (List ℕ) → Option ℕ → Option LoonCommand
loon_with (Some source) (Some library) (Some out) (Some fanout) = Some (record { source = source; library = library; out = out; fanout = fanout })
loon_with _ _ _ _ = None

abbrev pub loon_from : Given → Option LoonCommand
loon_from g = loon_with (source_of loon.endings g) (text_of library g) (text_of out g) (number_of fanout g)
