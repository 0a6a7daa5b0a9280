-- The words of `area`, and what they ask of it.
use Rattle.std.specs.Prelude.{ℕ, List, [], ◌∷◌, Option, None, Some, codes}
use Rattle.tool_words.specs.Table.{Entry, library}
use Rattle.tool_words.specs.Arguments.{Given}
use Rattle.tool_words.specs.Values.{source_of, text_of}
use Rattle.area_run.specs.declared.words.AreaCommand.{AreaCommand}

abbrev pub area : Entry
area = record { word = codes "area"; endings = codes ".vbe" ∷ []; settings = library ∷ [] }

-- the command of its values: none where one of them isn't there, or isn't of its form
abbrev pub area_with : Option (List ℕ) → Option (List ℕ) → Option AreaCommand
area_with (Some source) (Some library) = Some (record { source = source; library = library })
area_with _ _ = None

abbrev pub area_from : Given → Option AreaCommand
area_from g = area_with (source_of area.endings g) (text_of library g)
