-- The words of `druc`, and what they ask of it.
use Rattle.std.specs.Prelude.{ℕ, List, [], ◌∷◌, Option, None, Some, codes}
use Rattle.tool_words.specs.Table.{Entry, library}
use Rattle.tool_words.specs.Arguments.{Given}
use Rattle.tool_words.specs.Values.{source_of, text_of}
use Rattle.druc_run.specs.declared.words.DrucCommand.{DrucCommand}

abbrev pub druc : Entry
druc = record { word = codes "druc"; endings = codes ".ap" ∷ []; settings = library ∷ [] }

-- the command of its values: none where one of them isn't there, or isn't of its form
abbrev pub druc_with : Option (List ℕ) → Option (List ℕ) → Option DrucCommand
druc_with (Some source) (Some library) = Some (record { source = source; library = library })
druc_with _ _ = None

abbrev pub druc_from : Given → Option DrucCommand
druc_from g = druc_with (source_of druc.endings g) (text_of library g)
