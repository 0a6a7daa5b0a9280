-- The words of `proof`, and what they ask of it.
use Rattle.std.specs.Prelude.{ℕ, true, List, [], ◌∷◌, Option, None, Some, codes}
use Rattle.tool_words.specs.Table.{Entry, Setting, Ending, nodes}
use Rattle.tool_words.specs.Arguments.{Given}
use Rattle.tool_words.specs.Values.{source_of, text_of, number_of}
use Rattle.proof_run.specs.declared.words.ProofCommand.{ProofCommand}

-- what it is compared with
abbrev pub other : Setting
other = record { name = codes "other"; letter = Some 98; value = codes "OTHER"; required = true; form = Ending (codes ".vbe") }

abbrev pub proof : Entry
proof = record { word = codes "proof"; endings = codes ".vbe" ∷ []; settings = other ∷ nodes ∷ [] }

-- the command of its values: none where one of them isn't there, or isn't of its form
abbrev pub proof_with : Option (List ℕ) → Option (List ℕ) → Option ℕ → Option ProofCommand
proof_with (Some source) (Some other) (Some nodes) = Some (record { source = source; other = other; nodes = nodes })
proof_with _ _ _ = None

abbrev pub proof_from : Given → Option ProofCommand
proof_from g = proof_with (source_of proof.endings g) (text_of other g) (number_of nodes g)
