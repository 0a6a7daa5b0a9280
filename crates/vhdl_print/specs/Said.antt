-- Which tokens are read again as they are written, and before which bytes.
use Rattle.std.specs.Prelude.{◌≡◌, ℕ, ◌^◌, ◌<◌, ◌==◌, Bool, true, not, ◌||◌, ◌&&◌, None}
use Rattle.std.specs.List.{list_all}
use Rattle.std.specs.Char.{is_ascii_digit}
use Rattle.vhdl_token.specs.Keyword.{keyword_of}
use Rattle.vhdl_token.specs.declared.token.Token.{Token}
use Rattle.vhdl_token.specs.declared.token.Token.TheVariants as token
use Rattle.vhdl_token.specs.declared.token.Sign.{Sign}
use Rattle.vhdl_token.specs.declared.token.Sign.TheVariants as sign
use Rattle.lexer_base.specs.Bytes.{is_in_word, is_in_quotes}
use Rattle.spell_theory.specs.Words.{IsSmallWord}

-- a token that the lexer makes of a text in lower case
abbrev pub CanBeSaid : Token → Type 0
CanBeSaid (token.Identifier name) = IsSmallWord name × (keyword_of name ≡ None)
CanBeSaid (token.Keyword word) = Unit {0}
CanBeSaid (token.Number n) = n < 2 ^ 32
CanBeSaid (token.Bit b) = Unit {0}
CanBeSaid (token.Quoted text) = list_all is_in_quotes text ≡ true
CanBeSaid (token.BitString base digits) = list_all is_in_quotes digits ≡ true
CanBeSaid (token.Digits digits) = ⊥
CanBeSaid (token.Sign s) = Unit {0}

-- behind the sign this byte makes no other token
abbrev pub sign_stops : Sign → ℕ → Bool
sign_stops sign.Colon b = not (61 == b)
sign_stops sign.Less b = not (61 == b)
sign_stops sign.Equal b = not (62 == b)
sign_stops sign.Tick b = not (48 == b || 49 == b)
sign_stops _ b = true

-- behind the token this byte makes no other token
abbrev pub stops : Token → ℕ → Bool
stops (token.Identifier name) b = not (is_in_word b) && not (b == 34)
stops (token.Keyword word) b = not (is_in_word b) && not (b == 34)
stops (token.Number n) b = not (is_ascii_digit b)
stops (token.Sign s) b = sign_stops s b
stops _ b = true

-- the token is read again in front of this byte
abbrev pub FitsVhdl : Token → ℕ → Type 0
FitsVhdl t next = CanBeSaid t × (stops t next ≡ true)
