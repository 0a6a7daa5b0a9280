-- What is given for SOURCE and for an option, where it is of the form that the table has.
use Rattle.std.specs.Prelude.{ℕ, Bool, false, ◌&&◌, List, length, Option, None, Some, option_map, option_and_then, if◌then◌else◌, codes, nat_eq, nat_le}
use Rattle.std.specs.List.{ends_with, list_all, list_any}
use Rattle.clap.specs.Words.{first_of, found_of, rows_of}
use Rattle.clap.specs.declared.parser.matches.ArgMatches.{ArgMatches}
use Rattle.vlsi_base.specs.Number.{is_digit, value_of}
use Rattle.tool_words.specs.declared.values.Encoding.{Encoding}
use Rattle.tool_words.specs.declared.values.Encoding.TheVariants as encoding_variant
use Rattle.tool_words.specs.Words.{is_word}
use Rattle.tool_words.specs.Table.{Form, Ending, Number, Setting, encoding}
use Rattle.tool_words.specs.Arguments.{source, Given}

-- what the code's parse found
abbrev pub found : ArgMatches → Given
found m = rows_of (found_of m)

-- ---- texts

abbrev pub has_ending : List ℕ → List ℕ → Bool
has_ending text ending = ends_with nat_eq text ending

abbrev pub with_ending : List (List ℕ) → List ℕ → Option (List ℕ)
with_ending endings text = if list_any (has_ending text) endings then Some text else None

abbrev pub text_by : Form → List ℕ → Option (List ℕ)
text_by (Ending ending) text = if has_ending text ending then Some text else None
text_by _ text = Some text

-- SOURCE, with one of the endings
abbrev pub source_of : List (List ℕ) → Given → Option (List ℕ)
source_of endings rows = option_and_then (with_ending endings) (first_of source rows)

abbrev pub text_of : Setting → Given → Option (List ℕ)
text_of s rows = option_and_then (text_by s.form) (first_of s.name rows)

-- ---- flags

-- the parser says by this word that a flag is given
abbrev pub is_true : Option (List ℕ) → Bool
is_true None = false
is_true (Some text) = is_word text (codes "true")

abbrev pub is_set : Setting → Given → Bool
is_set s rows = is_true (first_of s.name rows)

-- ---- numbers

-- 1 to 10 decimal digits
abbrev pub is_numeral : List ℕ → Bool
is_numeral text = nat_le 1 (length text) && nat_le (length text) 10 && list_all is_digit text

-- the number that they spell, within bounds
abbrev pub number_within : ℕ → ℕ → List ℕ → Option ℕ
number_within least most text = if is_numeral text && nat_le least (value_of text) && nat_le (value_of text) most then Some (value_of text) else None

abbrev pub number_by : Form → List ℕ → Option ℕ
number_by (Number least most default) text = number_within least most text
number_by _ text = None

abbrev pub default_of : Form → Option ℕ
default_of (Number least most default) = default
default_of _ = None

abbrev pub number_or_default : Form → Option (List ℕ) → Option ℕ
number_or_default form None = default_of form
number_or_default form (Some text) = number_by form text

-- the number that is given, or the one that stands for it
abbrev pub number_of : Setting → Given → Option ℕ
number_of s rows = number_or_default s.form (first_of s.name rows)

abbrev pub number_or_none : Form → Option (List ℕ) → Option (Option ℕ)
number_or_none form None = Some None
number_or_none form (Some text) = option_map (λ n. Some n) (number_by form text)

-- the number that is given, if one is
abbrev pub number_if_given : Setting → Given → Option (Option ℕ)
number_if_given s rows = number_or_none s.form (first_of s.name rows)

-- ---- how states get their codes

-- by o, r or j
abbrev pub encoding_by : List ℕ → Option Encoding
encoding_by text =
    if is_word text (codes "o") then Some encoding_variant.OneHot
    else if is_word text (codes "r") then Some encoding_variant.Random
    else if is_word text (codes "j") then Some encoding_variant.Adjacent
    else None

abbrev pub encoding_or_default : Option (List ℕ) → Option Encoding
encoding_or_default None = Some encoding_variant.Adjacent
encoding_or_default (Some text) = encoding_by text

abbrev pub encoding_of : Given → Option Encoding
encoding_of rows = encoding_or_default (first_of encoding.name rows)
