-- What a tool's words may be: its word, its SOURCE and its options; and the options that several tools have.
use Rattle.std.specs.Prelude.{ℕ, Bool, true, false, List, Option, None, Some, codes}

-- what an option's value is
pub data Form : Type 0 where
  -- it has none: the option is a flag
  Flag : Form
  -- any text
  Text : Form
  -- a text with this ending
  Ending : List ℕ → Form
  -- a number in decimal digits, from the first to the second; and the number that stands for it where it is left out, if one does
  Number : ℕ → ℕ → Option ℕ → Form

-- An option: its name; the letter that spells it, where the name itself doesn't; how the usage line calls its value; whether it has
-- to stand among the words; and what its value is. It stands there at most once.
pub record Setting : Type 0 where
  pub name : List ℕ
  pub letter : Option ℕ
  pub value : List ℕ
  pub required : Bool
  pub form : Form

-- a tool: its word, the endings of which its SOURCE has one, and its options; without endings it has no SOURCE
pub record Entry : Type 0 where
  pub word : List ℕ
  pub endings : List (List ℕ)
  pub settings : List Setting

-- the folder of the library
abbrev pub library : Setting
library = record { name = codes "library"; letter = Some 108; value = codes "DIR"; required = true; form = Text }

-- the name of the file that is written, without its ending
abbrev pub out : Setting
out = record { name = codes "out"; letter = Some 111; value = codes "NAME"; required = true; form = Text }

-- how states get their codes
abbrev pub encoding : Setting
encoding = record { name = codes "encoding"; letter = Some 101; value = codes "o|r|j"; required = false; form = Text }

-- of random words
abbrev pub seed : Setting
seed = record { name = codes "seed"; letter = None; value = codes "0..4294967295"; required = false; form = Number 0 4294967295 (Some 0) }

-- the most nodes that a diagram may have
abbrev pub nodes : Setting
nodes = record { name = codes "nodes"; letter = None; value = codes "1..4000000"; required = false; form = Number 1 4000000 (Some 200000) }

-- the most sinks of a net: pins of cells that read it, but for clock pins
abbrev pub fanout : Setting
fanout = record { name = codes "fanout"; letter = None; value = codes "4..1000000"; required = false; form = Number 4 1000000 (Some 32) }
