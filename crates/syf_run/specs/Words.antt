-- The words of `syf`, and what they ask of it.
use Rattle.std.specs.Prelude.{ℕ, List, [], ◌∷◌, Option, None, Some, codes}
use Rattle.tool_words.specs.Table.{Entry, out, encoding, seed}
use Rattle.tool_words.specs.Arguments.{Given}
use Rattle.tool_words.specs.declared.values.Encoding.{Encoding}
use Rattle.tool_words.specs.Values.{source_of, text_of, number_of, encoding_of}
use Rattle.syf_run.specs.declared.words.SyfCommand.{SyfCommand}

abbrev pub syf : Entry
syf = record { word = codes "syf"; endings = codes ".fsm" ∷ []; settings = out ∷ encoding ∷ seed ∷ [] }

-- the command of its values: none where one of them isn't there, or isn't of its form
abbrev pub syf_with : Option (List ℕ) → Option (List ℕ) → Option Encoding → Option ℕ → Option SyfCommand
syf_with (Some source) (Some out) (Some encoding) (Some seed) = Some (record { source = source; out = out; encoding = encoding; seed = seed })
syf_with _ _ _ _ = None

abbrev pub syf_from : Given → Option SyfCommand
syf_from g = syf_with (source_of syf.endings g) (text_of out g) (encoding_of g) (number_of seed g)
