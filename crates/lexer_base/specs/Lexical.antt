-- What stands at the front of a text: numbers, signs and quoted texts, and the bytes that a piece takes.
use Rattle.std.specs.Prelude.{ℕ, ◌+◌, ◌-◌, ◌^◌, ◌<◌, ◌≤◌, ◌==◌, List, [], ◌∷◌, length, take, drop, find, min, Option, Some, None, nat_eq, nat_lt, slice_index, if◌then◌else◌}
use Rattle.std.specs.List.{prefix_len, starts_with}
use Rattle.std.specs.Char.{is_ascii_digit}
use Rattle.vlsi_base.specs.Number.{value_of}
use Rattle.vhdl_token.specs.declared.token.Token.TheVariants as token
use Rattle.vhdl_token.specs.declared.token.Sign.{Sign}
use Rattle.vhdl_token.specs.declared.token.Sign.TheVariants as sign
use Rattle.vhdl_token.specs.Signs.{sign_text}
use Rattle.lexer_base.specs.declared.piece.Piece.{Piece}
use Rattle.lexer_base.specs.declared.piece.Piece.TheVariants as piece
use Rattle.lexer_base.specs.Bytes.{is_in_quotes}

-- decimal digits, as many as stand there
unfoldable pub number_at : List ℕ → Piece
number_at text =
    let n = prefix_len is_ascii_digit text in
    let value = value_of (take n text) in
    if nat_lt value (2 ^ 32) then piece.Token (token.Number value) n else piece.TooGreat (min value (2 ^ 64 - 1))

-- how many bytes stand before the double quote that closes a text on its line
unfoldable pub quoted_length : List ℕ → Option ℕ
quoted_length text = let n = prefix_len is_in_quotes text in if slice_index text n == 34 then Some n else None

abbrev pub quotation_of : Option ℕ → List ℕ → Piece
quotation_of None inside = piece.Bad
quotation_of (Some n) inside = piece.Token (token.Quoted (take n inside)) (n + 2)

-- a text between double quotes
unfoldable pub quotation_at : List ℕ → Piece
quotation_at text = quotation_of (quoted_length (drop 1 text)) (drop 1 text)

-- the signs, each before those that it begins with
abbrev pub signs : List Sign
signs =
    sign.Assign ∷ sign.Arrow ∷ sign.Default ∷ sign.Unequal ∷ sign.LeftParen ∷ sign.RightParen ∷ sign.Comma ∷ sign.Semicolon ∷ sign.Colon ∷ sign.Equal ∷ sign.Ampersand ∷ sign.Bar ∷ sign.Tick ∷ sign.Less ∷ sign.Greater ∷ sign.Plus ∷ sign.Question ∷ sign.Star ∷ []

-- the first of some signs with which a text begins
abbrev pub sign_among : List ℕ → List Sign → Option Sign
sign_among text ss = find (λ s. starts_with nat_eq text (sign_text s)) ss

abbrev pub sign_of : Option Sign → Piece
sign_of None = piece.Bad
sign_of (Some s) = piece.Token (token.Sign s) (length (sign_text s))

-- the longest sign
unfoldable pub sign_at : List ℕ → Piece
sign_at text = sign_of (sign_among text signs)

-- how many bytes a piece takes; of what is refused one is enough, since reading ends there
abbrev pub length_of : Piece → ℕ
length_of piece.Blank = 1
length_of piece.NewLine = 1
length_of (piece.Comment n) = n
length_of (piece.Pragma key name n) = n
length_of (piece.Token t n) = n
length_of (piece.TooLong n) = 1
length_of (piece.TooGreat n) = 1
length_of piece.Bad = 1

-- the piece takes some of the bytes of the text
abbrev pub IsWithin : Piece → List ℕ → Type 0
IsWithin p text = (0 < length_of p) × (length_of p ≤ length text)
