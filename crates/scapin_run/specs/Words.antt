-- The words of `scapin`, and what they ask of it.
use Rattle.std.specs.Prelude.{true, ℕ, List, [], ◌∷◌, Option, None, Some, codes}
use Rattle.tool_words.specs.Table.{Entry, Setting, Ending, library, out}
use Rattle.tool_words.specs.Arguments.{Given}
use Rattle.tool_words.specs.Values.{source_of, text_of}
use Rattle.scapin_run.specs.declared.words.ScapinCommand.{ScapinCommand}

-- the registers in their order
abbrev pub path : Setting
path = record { name = codes "path"; letter = Some 112; value = codes "PATH"; required = true; form = Ending (codes ".path") }

abbrev pub scapin : Entry
scapin = record { word = codes "scapin"; endings = codes ".vst" ∷ []; settings = path ∷ library ∷ out ∷ [] }

-- the command of its values: none where one of them isn't there, or isn't of its form
abbrev pub scapin_with : Option (List ℕ) → Option (List ℕ) → Option (List ℕ) → Option (List ℕ) → Option ScapinCommand
scapin_with (Some source) (Some path) (Some library) (Some out) = Some (record { source = source; path = path; library = library; out = out })
scapin_with _ _ _ _ = None

abbrev pub scapin_from : Given → Option ScapinCommand
scapin_from g = scapin_with (source_of scapin.endings g) (text_of path g) (text_of library g) (text_of out g)
