-- The words of `flatbeh`, and what they ask of it.
use Rattle.std.specs.Prelude.{ℕ, List, [], ◌∷◌, Option, None, Some, codes}
use Rattle.tool_words.specs.Table.{Entry, library, out}
use Rattle.tool_words.specs.Arguments.{Given}
use Rattle.tool_words.specs.Values.{source_of, text_of}
use Rattle.flatbeh_run.specs.declared.words.FlatbehCommand.{FlatbehCommand}

abbrev pub flatbeh : Entry
flatbeh = record { word = codes "flatbeh"; endings = codes ".vst" ∷ []; settings = library ∷ out ∷ [] }

-- the command of its values: none where one of them isn't there, or isn't of its form
abbrev pub flatbeh_with : Option (List ℕ) → Option (List ℕ) → Option (List ℕ) → Option FlatbehCommand
flatbeh_with (Some source) (Some library) (Some out) = Some (record { source = source; library = library; out = out })
flatbeh_with _ _ _ = None

abbrev pub flatbeh_from : Given → Option FlatbehCommand
flatbeh_from g = flatbeh_with (source_of flatbeh.endings g) (text_of library g) (text_of out g)
