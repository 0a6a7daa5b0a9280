-- The words of `ocp`, and what they ask of it.
use Rattle.std.specs.Prelude.{ℕ, List, [], ◌∷◌, Option, None, Some, codes}
use Rattle.tool_words.specs.Table.{Entry, library, out, seed}
use Rattle.tool_words.specs.Arguments.{Given}
use Rattle.tool_words.specs.Values.{source_of, text_of, number_of, number_if_given}
use Rattle.flow_words.specs.Words.{rows, moves}
use Rattle.ocp_run.specs.Asked.{Asked}

abbrev pub ocp : Entry
ocp = record { word = codes "ocp"; endings = codes ".vst" ∷ []; settings = library ∷ out ∷ rows ∷ seed ∷ moves ∷ [] }

-- the command of its values: none where one of them isn't there, or isn't of its form
abbrev pub ocp_with : Option (List ℕ) → Option (List ℕ) → Option (List ℕ) → Option (Option ℕ) → Option ℕ → Option ℕ → Option Asked
ocp_with (Some source) (Some library) (Some out) (Some rows) (Some seed) (Some moves) =
    Some (record { source = source; library = library; out = out; rows = rows; seed = seed; moves = moves })
ocp_with _ _ _ _ _ _ = None

abbrev pub ocp_from : Given → Option Asked
ocp_from g = ocp_with (source_of ocp.endings g) (text_of library g) (text_of out g) (number_if_given rows g) (number_of seed g) (number_of moves g)
