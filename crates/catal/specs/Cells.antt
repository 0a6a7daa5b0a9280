-- The cells of a CATAL as a function of its bytes, for what reads the files that it names.
use Rattle.std.specs.Prelude.{◌==◌, ℕ, Bool, true, not, ◌&&◌, List, [], ◌∷◌, ◌++◌, length, take, drop, codes, Option, None, Some, is_none, nat_le, if◌then◌else◌}
use Rattle.std.specs.List.{prefix_len, list_any}
use Rattle.std.specs.Char.{is_ascii_uppercase}
use Rattle.std.specs.Str.{bytes_eq}
use Rattle.vlsi_base.specs.declared.limits.TheConstants.{MOST_SOURCE_BYTES}
use Rattle.vhdl_token.specs.Keyword.{keyword_of}
use Rattle.lexer_base.specs.declared.piece.TheConstants.{MOST_IDENTIFIER_BYTES}
use Rattle.lexer_base.specs.Bytes.{is_blank, is_in_word}
use Rattle.vlsi_base.specs.Lines.{lines_of}
use Rattle.catal.specs.declared.reader.TheConstants.{MOST_CELLS}
use Rattle.catal.specs.Line.{lower, is_identifier, is_run}

-- what this name and this word give, with these blanks between them
abbrev pub given_by : List ℕ → List ℕ → List ℕ → Option (List (List ℕ))
given_by name blanks word =
    if is_identifier name && (is_run is_blank blanks && (is_run is_ascii_uppercase word && (is_none (keyword_of (lower name)) && nat_le (length name) MOST_IDENTIFIER_BYTES)))
    then Some (if bytes_eq word (codes "C") then lower name ∷ [] else [])
    else None

-- the names that a line gives, if it is none at fault
unfoldable pub names_on : List ℕ → Option (List (List ℕ))
names_on line =
    let rest = drop (prefix_len is_in_word line) line in
    if length line == 0 then Some []
    else given_by (take (prefix_len is_in_word line) line) (take (prefix_len is_blank rest) rest) (drop (prefix_len is_blank rest) rest)

abbrev pub joined : Option (List (List ℕ)) → Option (List (List ℕ)) → Option (List (List ℕ))
joined None o = None
joined (Some a) None = None
joined (Some a) (Some b) = Some (a ++ b)

-- the names that lines give, if none is at fault
abbrev pub names_among : List (List ℕ) → Option (List (List ℕ))
names_among [] = Some []
names_among (line ∷ lines) = joined (names_on line) (names_among lines)

abbrev pub are_different : List (List ℕ) → Bool
are_different [] = true
are_different (name ∷ names) = not (list_any (bytes_eq name) names) && are_different names

-- none, where one stands twice or there are too many
abbrev pub if_few : Option (List (List ℕ)) → List (List ℕ)
if_few None = []
if_few (Some names) = if are_different names && nat_le (length names) MOST_CELLS then names else []

-- The names of the cells that a CATAL uses; none, where the bytes are no CATAL.
unfoldable pub cells_in : List ℕ → List (List ℕ)
cells_in bytes = if nat_le (length bytes) MOST_SOURCE_BYTES then if_few (names_among (lines_of bytes)) else []
