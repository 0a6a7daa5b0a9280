-- The words of `flow` and `gen`, and what they ask of them.
use Rattle.std.specs.Prelude.{◌≡◌, ◌≤◌, IfSome, ℕ, Bool, true, false, List, [], ◌∷◌, ◌++◌, Option, None, Some, option_map, codes}
use Rattle.tool_words.specs.declared.values.Encoding.{Encoding}
use Rattle.tool_words.specs.declared.values.Encoding.TheVariants as encoding_variant
use Rattle.tool_words.specs.Table.{Entry, Setting, Flag, Number, library, out, encoding, seed, nodes, fanout}
use Rattle.tool_words.specs.Arguments.{Given}
use Rattle.tool_words.specs.Values.{source_of, text_of, is_set, number_of, number_if_given, encoding_of}
use Rattle.tool_words.specs.Spelling.{spelled}
use Rattle.flow_words.specs.declared.words.Numbers.{Numbers}
use Rattle.flow_words.specs.declared.words.FlowCommand.{FlowCommand}
use Rattle.flow_words.specs.declared.words.GenCommand.{GenCommand}

-- that each net has a track of its own
abbrev pub tracks : Setting
tracks = record { name = codes "tracks"; letter = None; value = []; required = false; form = Flag }

-- how many rows of cells, and how many metals
abbrev pub rows : Setting
rows = record { name = codes "rows"; letter = None; value = codes "1..256"; required = false; form = Number 1 256 None }

abbrev pub metals : Setting
metals = record { name = codes "metals"; letter = None; value = codes "4..6"; required = false; form = Number 4 6 (Some 6) }

-- how often the placement is tried to be made better
abbrev pub moves : Setting
moves = record { name = codes "moves"; letter = None; value = codes "0..1000000"; required = false; form = Number 0 1000000 (Some 10000) }

-- how large a source is made
abbrev pub size : Setting
size = record { name = codes "size"; letter = None; value = codes "8..4000"; required = true; form = Number 8 4000 None }

abbrev pub flow : Entry
flow = record {
  word = codes "flow";
  endings = codes ".vbe" ∷ codes ".fsm" ∷ [];
  settings = library ∷ out ∷ encoding ∷ tracks ∷ rows ∷ metals ∷ seed ∷ moves ∷ nodes ∷ fanout ∷ [];
}

abbrev pub gen : Entry
gen = record {
  word = codes "gen";
  endings = [];
  settings = size ∷ library ∷ out ∷ tracks ∷ rows ∷ metals ∷ seed ∷ moves ∷ nodes ∷ fanout ∷ [];
}

-- ---- the commands, from their values: none where one of them isn't there, or isn't of its form

abbrev pub numbers_with : Option (Option ℕ) → Option ℕ → Option ℕ → Option ℕ → Option ℕ → Option ℕ → Option Numbers
numbers_with (Some rows) (Some metals) (Some seed) (Some moves) (Some nodes) (Some fanout) =
    Some (record { rows = rows; metals = metals; seed = seed; moves = moves; nodes = nodes; fanout = fanout })
numbers_with _ _ _ _ _ _ = None

-- the numbers that both have
abbrev pub numbers_of : Given → Option Numbers
numbers_of g = numbers_with (number_if_given rows g) (number_of metals g) (number_of seed g) (number_of moves g) (number_of nodes g) (number_of fanout g)

abbrev pub flow_with : Option (List ℕ) → Option Encoding → Bool → Option Numbers → Option (List ℕ) → Option (List ℕ) → Option FlowCommand
flow_with (Some source) (Some encoding) tracks (Some n) (Some library) (Some out) = Some (record {
  source = source;
  library = library;
  out = out;
  encoding = encoding;
  tracks = tracks;
  rows = n.rows;
  metals = n.metals;
  seed = n.seed;
  moves = n.moves;
  nodes = n.nodes;
  fanout = n.fanout;
})
flow_with _ _ _ _ _ _ = None

-- what `flow` is asked to do with a source and an encoding
abbrev pub flow_on : Option (List ℕ) → Option Encoding → Given → Option FlowCommand
flow_on source encoding g = flow_with source encoding (is_set tracks g) (numbers_of g) (text_of library g) (text_of out g)

abbrev pub gen_with : Option ℕ → Option FlowCommand → Option GenCommand
gen_with (Some size) (Some flow) = Some (record { size = size; flow = flow })
gen_with _ _ = None

-- the source that is written for NAME
abbrev pub generated : List ℕ → List ℕ
generated out = out ++ codes ".vbe"

abbrev pub flow_from : Given → Option FlowCommand
flow_from g = flow_on (source_of flow.endings g) (encoding_of g) g

abbrev pub gen_from : Given → Option GenCommand
gen_from g = gen_with (number_of size g) (flow_on (option_map generated (text_of out g)) (Some encoding_variant.Adjacent) g)

-- ---- the commands that the words behind their word spell

abbrev pub flow_of : List (List ℕ) → Option FlowCommand
flow_of words = spelled flow flow_from words

abbrev pub gen_of : List (List ℕ) → Option GenCommand
gen_of words = spelled gen gen_from words

-- ---- what such words ask for

-- numbers within the bounds of their options
pub record IsWithinBounds (c : FlowCommand) : Type 0 where
  pub rows : IfSome c.rows (λ r. (1 ≤ r) × (r ≤ 256))
  pub metals : (4 ≤ c.metals) × (c.metals ≤ 6)

-- words spell nothing else
abbrev pub FlowsAreWithinBounds : Type 0
FlowsAreWithinBounds = (words : List (List ℕ)) (c : FlowCommand) → flow_of words ≡ Some c → IsWithinBounds c

abbrev pub GensAreWithinBounds : Type 0
GensAreWithinBounds = (words : List (List ℕ)) (c : GenCommand) → gen_of words ≡ Some c → IsWithinBounds c.flow
