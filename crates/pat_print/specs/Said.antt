-- Which tokens of a pattern file are read again as they are written, where values stand or elsewhere, and before which bytes.
use Rattle.std.specs.Prelude.{◌≡◌, ℕ, ◌^◌, ◌<◌, ◌==◌, Bool, true, false, not, ◌||◌, ◌&&◌, nat_le, List, length}
use Rattle.std.specs.List.{list_all}
use Rattle.std.specs.Char.{is_ascii_digit}
use Rattle.vhdl_token.specs.Keyword.{keyword_of, keyword_text}
use Rattle.vhdl_token.specs.declared.token.Token.{Token}
use Rattle.vhdl_token.specs.declared.token.Token.TheVariants as token
use Rattle.vhdl_token.specs.declared.token.Sign.{Sign}
use Rattle.vhdl_token.specs.declared.token.Sign.TheVariants as sign
use Rattle.lexer_base.specs.Bytes.{is_in_word}
use Rattle.pat_lexer.specs.Lexical.{is_letter_or_digit, word_token}
use Rattle.spell_theory.specs.Words.{IsSmallWord}

-- digits of any base
abbrev pub is_hexadecimal : ℕ → Bool
is_hexadecimal c = (nat_le 48 c && nat_le c 57) || (nat_le 97 c && nat_le c 102)

-- behind the sign this byte makes no other token
abbrev pub sign_stops : Sign → ℕ → Bool
sign_stops sign.Colon b = not (61 == b)
sign_stops sign.Less b = not (61 == b)
sign_stops sign.Equal b = not (62 == b)
sign_stops _ b = true

-- a word in lower case that is this token, where the next byte doesn't go on with it
abbrev pub IsWordOf : Token → List ℕ → ℕ → Type 0
IsWordOf t text next = IsSmallWord text × (word_token (keyword_of text) text ≡ t) × (is_in_word next ≡ false)

-- the token is read again where values stand (true) or elsewhere, in front of this byte
abbrev pub FitsPat : Bool → Token → ℕ → Type 0
FitsPat v (token.Sign s) next = sign_stops s next ≡ true
FitsPat true (token.Digits digits) next =
    (0 < length digits) × (list_all is_hexadecimal digits ≡ true) × (is_letter_or_digit next ≡ false)
FitsPat false (token.Identifier name) next = IsWordOf (token.Identifier name) name next
FitsPat false (token.Keyword word) next = IsWordOf (token.Keyword word) (keyword_text word) next
FitsPat false (token.Number n) next = (n < 2 ^ 32) × (is_ascii_digit next ≡ false)
FitsPat _ _ next = ⊥
