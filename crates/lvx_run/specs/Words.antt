-- The words of `lvx`, and what they ask of it.
use Rattle.std.specs.Prelude.{ℕ, true, List, [], ◌∷◌, Option, None, Some, codes}
use Rattle.tool_words.specs.Table.{Entry, Setting, Ending, library}
use Rattle.tool_words.specs.Arguments.{Given}
use Rattle.tool_words.specs.Values.{source_of, text_of}
use Rattle.lvx_run.specs.declared.words.LvxCommand.{LvxCommand}

-- what it is compared with
abbrev pub other : Setting
other = record { name = codes "other"; letter = Some 98; value = codes "OTHER"; required = true; form = Ending (codes ".vst") }

abbrev pub lvx : Entry
lvx = record { word = codes "lvx"; endings = codes ".vst" ∷ []; settings = other ∷ library ∷ [] }

-- the command of its values: none where one of them isn't there, or isn't of its form
abbrev pub lvx_with : Option (List ℕ) → Option (List ℕ) → Option (List ℕ) → Option LvxCommand
lvx_with (Some source) (Some other) (Some library) = Some (record { source = source; other = other; library = library })
lvx_with _ _ _ = None

abbrev pub lvx_from : Given → Option LvxCommand
lvx_from g = lvx_with (source_of lvx.endings g) (text_of other g) (text_of library g)
