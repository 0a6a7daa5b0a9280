-- The usage lines, from the table of tools.
use Rattle.std.specs.List.{find}
use Rattle.std.specs.Prelude.{ℕ, Bool, List, [], ◌∷◌, ◌++◌, Option, None, Some, if◌then◌else◌, codes}
use Rattle.tool_words.specs.Table.{Form, Flag, Ending, Setting, Entry}
use Rattle.tool_words.specs.Words.{is_word}

-- each ending behind a bar
abbrev pub more_endings : List (List ℕ) → List ℕ
more_endings [] = []
more_endings (ending ∷ rest) = codes "|" ++ (ending ++ more_endings rest)

-- SOURCE, with the endings of which it has one
abbrev pub source_usage : List (List ℕ) → List ℕ
source_usage [] = []
source_usage (ending ∷ rest) = codes " SOURCE" ++ (ending ++ more_endings rest)

abbrev pub value_usage : Form → List ℕ → List ℕ
value_usage Flag value = []
value_usage (Ending ending) value = codes " " ++ (value ++ ending)
value_usage _ value = codes " " ++ value

-- a letter behind one dash, or the name behind two
abbrev pub option_usage : Option ℕ → List ℕ → List ℕ
option_usage (Some letter) name = codes "-" ++ letter ∷ []
option_usage None name = codes "--" ++ name

-- what may be left out stands in brackets
abbrev pub before_option : Bool → List ℕ
before_option required = if required then codes " " else codes " ["

abbrev pub behind_value : Bool → List ℕ
behind_value required = if required then [] else codes "]"

abbrev pub setting_usage : Setting → List ℕ
setting_usage s = before_option s.required ++ (option_usage s.letter s.name ++ (value_usage s.form s.value ++ behind_value s.required))

abbrev pub settings_usage : List Setting → List ℕ
settings_usage [] = []
settings_usage (s ∷ rest) = setting_usage s ++ settings_usage rest

-- a tool's word, its SOURCE and its options
abbrev pub entry_usage : Entry → List ℕ
entry_usage e = e.word ++ (source_usage e.endings ++ settings_usage e.settings)

-- each word behind a bar
abbrev pub more_words : List Entry → List ℕ
more_words [] = []
more_words (e ∷ rest) = codes "|" ++ (e.word ++ more_words rest)

abbrev pub tool_words : List Entry → List ℕ
tool_words [] = []
tool_words (e ∷ rest) = e.word ++ more_words rest

abbrev pub usage_by : List Entry → Option Entry → List ℕ
usage_by entries (Some e) = entry_usage e
usage_by entries None = tool_words entries ++ codes " ARGUMENTS"

-- the entry with this word
abbrev pub entry_of : List Entry → List ℕ → Option Entry
entry_of entries word = find (λ (e : Entry). is_word e.word word) entries

abbrev pub of_words : List Entry → List (List ℕ) → Option Entry
of_words entries [] = None
of_words entries (word ∷ _) = entry_of entries word

-- the line on wrong words: of the tool that the first word names, or of all tools
abbrev pub usage_of : List Entry → List (List ℕ) → List ℕ
usage_of entries words = codes "usage: alliance " ++ (usage_by entries (of_words entries words) ++ 10 ∷ [])
