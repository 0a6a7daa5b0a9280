-- The words of `rip`, and what they ask of it.
use Rattle.std.specs.Prelude.{false, ℕ, [], ◌∷◌, Option, None, Some, codes}
use Rattle.tool_words.specs.Table.{Entry, Setting, Number, library, out}
use Rattle.tool_words.specs.Arguments.{Given}
use Rattle.tool_words.specs.Values.{number_of}
use Rattle.flow_words.specs.Words.{metals}
use Rattle.nero_run.specs.Asked.{Asked}
use Rattle.nero_run.specs.Words.{placed, nero_from}
use Rattle.rip_run.specs.Asked.{AskedRips}

-- how often paths may be torn out
abbrev pub rips : Setting
rips = record { name = codes "rips"; letter = None; value = codes "0..10000"; required = false; form = Number 0 10000 (Some 100) }

abbrev pub rip : Entry
rip = record { word = codes "rip"; endings = codes ".vst" ∷ []; settings = placed ∷ library ∷ out ∷ metals ∷ rips ∷ [] }

-- the command of its values: none where one of them isn't there, or isn't of its form
abbrev pub rip_with : Option Asked → Option ℕ → Option AskedRips
rip_with (Some routing) (Some rips) = Some (record { routing = routing; rips = rips })
rip_with _ _ = None

abbrev pub rip_from : Given → Option AskedRips
rip_from g = rip_with (nero_from g) (number_of rips g)
