-- The words of `nero`, and what they ask of it.
use Rattle.std.specs.Prelude.{true, ℕ, List, [], ◌∷◌, Option, None, Some, codes}
use Rattle.tool_words.specs.Table.{Entry, Setting, Ending, library, out}
use Rattle.tool_words.specs.Arguments.{Given}
use Rattle.tool_words.specs.Values.{source_of, text_of, number_of}
use Rattle.flow_words.specs.Words.{metals}
use Rattle.nero_run.specs.Asked.{Asked}

-- the layout of the placement
abbrev pub placed : Setting
placed = record { name = codes "placed"; letter = Some 112; value = codes "PLACED"; required = true; form = Ending (codes ".ap") }

abbrev pub nero : Entry
nero = record { word = codes "nero"; endings = codes ".vst" ∷ []; settings = placed ∷ library ∷ out ∷ metals ∷ [] }

-- the command of its values: none where one of them isn't there, or isn't of its form
abbrev pub nero_with : Option (List ℕ) → Option (List ℕ) → Option (List ℕ) → Option (List ℕ) → Option ℕ → Option Asked
nero_with (Some source) (Some placed) (Some library) (Some out) (Some metals) =
    Some (record { source = source; placed = placed; library = library; out = out; metals = metals })
nero_with _ _ _ _ _ = None

abbrev pub nero_from : Given → Option Asked
nero_from g = nero_with (source_of nero.endings g) (text_of placed g) (text_of library g) (text_of out g) (number_of metals g)
