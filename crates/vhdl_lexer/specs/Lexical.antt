-- What stands at the front of a text: the longest token there, or what may stand between tokens.
use Rattle.std.specs.Prelude.{ℕ, ◌+◌, ◌==◌, true, false, ◌||◌, List, map, take, drop, codes, Option, Some, None, unwrap_or, nat_eq, nat_lt, slice_index, slice_range, if◌then◌else◌}
use Rattle.std.specs.List.{prefix_len, starts_with}
use Rattle.std.specs.Char.{is_ascii_alphabetic, is_ascii_digit, to_ascii_lowercase}
use Rattle.vhdl_token.specs.declared.keyword.Keyword.{Keyword}
use Rattle.vhdl_token.specs.declared.token.Token.{Token}
use Rattle.vhdl_token.specs.declared.token.Token.TheVariants as token
use Rattle.vlsi_base.specs.declared.radix.Radix.{Radix}
use Rattle.vlsi_base.specs.declared.radix.Radix.TheVariants.{Binary, Octal, Hexadecimal}
use Rattle.vhdl_token.specs.Keyword.{keyword_of}
use Rattle.lexer_base.specs.declared.piece.Piece.{Piece}
use Rattle.lexer_base.specs.declared.piece.Piece.TheVariants as piece
use Rattle.lexer_base.specs.Bytes.{is_blank, is_in_word, is_on_line}
use Rattle.lexer_base.specs.Lexical.{number_at, quoted_length, quotation_at, sign_at}
use Rattle.vhdl_lexer.specs.Words.{pragma_of}

-- a reserved word, or else an identifier
abbrev pub word_token : Option Keyword → List ℕ → Token
word_token None name = token.Identifier name
word_token (Some k) name = token.Keyword k

-- letters, digits and underscores, as many as stand there, read in lower case
unfoldable pub word_at : List ℕ → Piece
word_at text =
    let n = prefix_len is_in_word text in
    let name = map to_ascii_lowercase (take n text) in
    if nat_lt 64 n then piece.TooLong n else piece.Token (word_token (keyword_of name) name) n

-- the base that a letter stands for: b, o or x
abbrev pub base_of : ℕ → Option Radix
base_of letter =
    let b = to_ascii_lowercase letter in
    if b == 98 then Some Binary else (if b == 111 then Some Octal else (if b == 120 then Some Hexadecimal else None))

abbrev pub bit_string_of : Option Radix → Option ℕ → List ℕ → Option Piece
bit_string_of None o inside = None
bit_string_of (Some base) None inside = None
bit_string_of (Some base) (Some n) inside = Some (piece.Token (token.BitString base (take n inside)) (n + 3))

-- the letter of a base, and directly behind it a text between double quotes
unfoldable pub bit_string_at : List ℕ → Option Piece
bit_string_at text =
    if slice_index text 1 == 34 then bit_string_of (base_of (slice_index text 0)) (quoted_length (drop 2 text)) (drop 2 text) else None

abbrev pub comment_of : Option (List ℕ × List ℕ) → ℕ → Piece
comment_of None n = piece.Comment n
comment_of (Some words) n = piece.Pragma words.0 words.1 n

-- two dashes, and what follows on the line
unfoldable pub comment_at : List ℕ → Piece
comment_at text =
    let n = prefix_len is_on_line text in comment_of (pragma_of (slice_range text 2 n)) n

-- the piece at the front of a text that has a byte
unfoldable pub piece_at : List ℕ → Piece
piece_at text =
    let b = slice_index text 0 in
    if is_blank b || b == 13 then piece.Blank
    else (if b == 10 then piece.NewLine
    else (if is_ascii_alphabetic b then unwrap_or (bit_string_at text) (word_at text)
    else (if is_ascii_digit b then number_at text
    else (if b == 34 then quotation_at text
    else (if starts_with nat_eq text (codes "--") then comment_at text
    else (if starts_with nat_eq text (codes "'0'") then piece.Token (token.Bit false) 3
    else (if starts_with nat_eq text (codes "'1'") then piece.Token (token.Bit true) 3
    else sign_at text)))))))
