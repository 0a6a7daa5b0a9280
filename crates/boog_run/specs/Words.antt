-- The words of `boog`, and what they ask of it.
use Rattle.std.specs.Prelude.{ℕ, List, [], ◌∷◌, Option, None, Some, codes}
use Rattle.tool_words.specs.Table.{Entry, library, out}
use Rattle.tool_words.specs.Arguments.{Given}
use Rattle.tool_words.specs.Values.{source_of, text_of}
use Rattle.boog_run.specs.declared.words.BoogCommand.{BoogCommand}

abbrev pub boog : Entry
boog = record { word = codes "boog"; endings = codes ".vbe" ∷ []; settings = library ∷ out ∷ [] }

-- the command of its values: none where one of them isn't there, or isn't of its form
abbrev pub boog_with : Option (List ℕ) → Option (List ℕ) → Option (List ℕ) → Option BoogCommand
boog_with (Some source) (Some library) (Some out) = Some (record { source = source; library = library; out = out })
boog_with _ _ _ = None

abbrev pub boog_from : Given → Option BoogCommand
boog_from g = boog_with (source_of boog.endings g) (text_of library g) (text_of out g)
