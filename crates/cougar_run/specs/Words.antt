-- The words of `cougar`, and what they ask of it.
use Rattle.std.specs.Prelude.{ℕ, List, [], ◌∷◌, Option, None, Some, codes}
use Rattle.tool_words.specs.Table.{Entry, library, out}
use Rattle.tool_words.specs.Arguments.{Given}
use Rattle.tool_words.specs.Values.{source_of, text_of}
use Rattle.cougar_run.specs.declared.words.CougarCommand.{CougarCommand}

abbrev pub cougar : Entry
cougar = record { word = codes "cougar"; endings = codes ".ap" ∷ []; settings = library ∷ out ∷ [] }

-- the command of its values: none where one of them isn't there, or isn't of its form
abbrev pub cougar_with : Option (List ℕ) → Option (List ℕ) → Option (List ℕ) → Option CougarCommand
cougar_with (Some source) (Some library) (Some out) = Some (record { source = source; library = library; out = out })
cougar_with _ _ _ = None

abbrev pub cougar_from : Given → Option CougarCommand
cougar_from g = cougar_with (source_of cougar.endings g) (text_of library g) (text_of out g)
