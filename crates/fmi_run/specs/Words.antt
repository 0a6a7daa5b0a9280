-- The words of `fmi`, and what they ask of it.
use Rattle.std.specs.Prelude.{ℕ, List, [], ◌∷◌, Option, None, Some, codes}
use Rattle.tool_words.specs.Table.{Entry, out}
use Rattle.tool_words.specs.Arguments.{Given}
use Rattle.tool_words.specs.Values.{source_of, text_of}
use Rattle.fmi_run.specs.declared.words.FmiCommand.{FmiCommand}

abbrev pub fmi : Entry
fmi = record { word = codes "fmi"; endings = codes ".fsm" ∷ []; settings = out ∷ [] }

-- the command of its values: none where one of them isn't there, or isn't of its form
abbrev pub fmi_with : Option (List ℕ) → Option (List ℕ) → Option FmiCommand
fmi_with (Some source) (Some out) = Some (record { source = source; out = out })
fmi_with _ _ = None

abbrev pub fmi_from : Given → Option FmiCommand
fmi_from g = fmi_with (source_of fmi.endings g) (text_of out g)
