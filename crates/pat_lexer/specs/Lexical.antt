-- What stands at the front of a text: the longest token there, or what may stand between tokens.
use Rattle.std.specs.Prelude.{ℕ, ◌==◌, Bool, true, false, ◌||◌, ◌&&◌, List, map, take, codes, Option, Some, nat_eq, nat_lt, slice_index, if◌then◌else◌}
use Rattle.std.specs.List.{prefix_len, starts_with}
use Rattle.std.specs.Char.{is_ascii_alphabetic, is_ascii_digit, to_ascii_lowercase}
use Rattle.vhdl_token.specs.declared.keyword.Keyword.{Keyword}
use Rattle.vhdl_token.specs.declared.keyword.Keyword.TheVariants as word
use Rattle.vhdl_token.specs.declared.token.Token.{Token}
use Rattle.vhdl_token.specs.declared.token.Token.TheVariants as token
use Rattle.vhdl_token.specs.declared.token.Sign.TheVariants as sign
use Rattle.vhdl_token.specs.Keyword.{keyword_of}
use Rattle.lexer_base.specs.declared.piece.Piece.{Piece}
use Rattle.lexer_base.specs.declared.piece.Piece.TheVariants as piece
use Rattle.lexer_base.specs.Bytes.{is_blank, is_in_word, is_on_line}
use Rattle.lexer_base.specs.Lexical.{number_at, quotation_at, sign_at}

-- a letter or a digit
abbrev pub is_letter_or_digit : ℕ → Bool
is_letter_or_digit b = is_ascii_alphabetic b || is_ascii_digit b

-- Of the reserved words only in, out, begin and end mean something in a pattern file; each other word is an identifier.
abbrev pub word_token : Option Keyword → List ℕ → Token
word_token (Some word.In) name = token.Keyword word.In
word_token (Some word.Out) name = token.Keyword word.Out
word_token (Some word.Begin) name = token.Keyword word.Begin
word_token (Some word.End) name = token.Keyword word.End
word_token _ name = token.Identifier name

-- letters, digits and underscores, as many as stand there, read in lower case
unfoldable pub word_at : List ℕ → Piece
word_at text =
    let n = prefix_len is_in_word text in
    let name = map to_ascii_lowercase (take n text) in
    if nat_lt 64 n then piece.TooLong n else piece.Token (word_token (keyword_of name) name) n

-- the digits of a value: letters and digits, as many as stand there, read in lower case
unfoldable pub digits_at : List ℕ → Piece
digits_at text = let n = prefix_len is_letter_or_digit text in piece.Token (token.Digits (map to_ascii_lowercase (take n text))) n

-- two dashes, and what follows on the line
unfoldable pub comment_at : List ℕ → Piece
comment_at text = piece.Comment (prefix_len is_on_line text)

-- the piece at the front of a text that has a byte, where values stand or elsewhere
unfoldable pub piece_at : Bool → List ℕ → Piece
piece_at is_value text =
    let b = slice_index text 0 in
    if is_blank b || b == 13 then piece.Blank
    else (if b == 10 then piece.NewLine
    else (if is_value && is_letter_or_digit b then digits_at text
    else (if is_ascii_alphabetic b then word_at text
    else (if is_ascii_digit b then number_at text
    else (if b == 34 then quotation_at text
    else (if starts_with nat_eq text (codes "--") then comment_at text
    else sign_at text))))))

-- whether values stand behind a piece: they do behind a colon, up to the next semicolon
abbrev pub value_behind : Piece → Bool → Bool
value_behind (piece.Token (token.Sign sign.Colon) n) is_value = true
value_behind (piece.Token (token.Sign sign.Semicolon) n) is_value = false
value_behind _ is_value = is_value
