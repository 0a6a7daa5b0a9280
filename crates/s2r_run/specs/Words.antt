-- The words of `s2r`, and what they ask of it.
use Rattle.std.specs.Prelude.{true, ℕ, List, [], ◌∷◌, Option, None, Some, codes}
use Rattle.tool_words.specs.Table.{Entry, Setting, Ending, library, out}
use Rattle.tool_words.specs.Arguments.{Given}
use Rattle.tool_words.specs.Values.{source_of, text_of}
use Rattle.s2r_run.specs.declared.words.S2rCommand.{S2rCommand}

-- the table that leads to real units
abbrev pub table : Setting
table = record { name = codes "table"; letter = Some 112; value = codes "TABLE"; required = true; form = Ending (codes ".real") }

abbrev pub s2r : Entry
s2r = record { word = codes "s2r"; endings = codes ".ap" ∷ []; settings = table ∷ library ∷ out ∷ [] }

-- the command of its values: none where one of them isn't there, or isn't of its form
abbrev pub s2r_with : Option (List ℕ) → Option (List ℕ) → Option (List ℕ) → Option (List ℕ) → Option S2rCommand
s2r_with (Some source) (Some table) (Some library) (Some out) = Some (record { source = source; table = table; library = library; out = out })
s2r_with _ _ _ _ = None

abbrev pub s2r_from : Given → Option S2rCommand
s2r_from g = s2r_with (source_of s2r.endings g) (text_of table g) (text_of library g) (text_of out g)
