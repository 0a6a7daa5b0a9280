-- The words of `asimut`, and what they ask of it.
use Rattle.std.specs.Prelude.{ℕ, Bool, true, false, List, [], ◌∷◌, Option, None, Some, codes}
use Rattle.tool_words.specs.Table.{Entry, Setting, Text, Ending}
use Rattle.tool_words.specs.Arguments.{Given}
use Rattle.tool_words.specs.Values.{has_ending, source_of, text_of}
use Rattle.asimut_run.specs.declared.words.AsimutTask.{AsimutTask}
use Rattle.asimut_run.specs.declared.words.AsimutTask.TheVariants as task

abbrev pub patterns : Setting
patterns = record { name = codes "patterns"; letter = Some 112; value = codes "PATTERNS"; required = true; form = Ending (codes ".pat") }

-- the library, which stands only beside a netlist
abbrev pub netlist_library : Setting
netlist_library = record { name = codes "library"; letter = Some 108; value = codes "DIR"; required = false; form = Text }

abbrev pub asimut : Entry
asimut = record { word = codes "asimut"; endings = codes ".vbe" ∷ codes ".vst" ∷ []; settings = patterns ∷ netlist_library ∷ [] }

-- patterns are run on a source, or with a library on a netlist
abbrev pub asimut_on : List ℕ → List ℕ → Bool → Option (List ℕ) → Option AsimutTask
asimut_on source patterns false None = Some (task.Source (record { source = source; patterns = patterns }))
asimut_on source patterns true (Some library) = Some (task.Netlist (record { source = source; patterns = patterns; library = library }))
asimut_on _ _ _ _ = None

-- the task of its values: none where one of them isn't there, or isn't of its form
abbrev pub asimut_with : Option (List ℕ) → Option (List ℕ) → Option (List ℕ) → Option AsimutTask
asimut_with (Some source) (Some patterns) library = asimut_on source patterns (has_ending source (codes ".vst")) library
asimut_with _ _ _ = None

abbrev pub asimut_from : Given → Option AsimutTask
asimut_from g = asimut_with (source_of asimut.endings g) (text_of patterns g) (text_of netlist_library g)
