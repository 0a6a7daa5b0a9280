-- Tokens as a writer lays them out: which text they are, and which tokens stand on which lines.
use Rattle.std.specs.Prelude.{ℕ, ◌+◌, ◌-◌, ◌^◌, min, true, false, List, [], ◌∷◌, ◌++◌, codes}
use Rattle.std.specs.Fmt.{decimal}
use Rattle.vhdl_token.specs.Keyword.{keyword_text}
use Rattle.vhdl_token.specs.Signs.{sign_text}
use Rattle.vlsi_base.specs.declared.radix.Radix.{Radix}
use Rattle.vlsi_base.specs.declared.radix.Radix.TheVariants as base
use Rattle.vhdl_token.specs.declared.token.Token.{Token}
use Rattle.vhdl_token.specs.declared.token.Token.TheVariants as token
use Rattle.vhdl_token.specs.declared.token.PlacedToken.{PlacedToken}

-- what a writer puts: a space, the end of a line, or a token
pub data Written : Type 0 where
  -- a space
  gap : Written
  -- the end of a line
  turn : Written
  -- a token
  says : Token → Written

-- the letter in front of the digits of a bit string
abbrev pub base_letter : Radix → ℕ
base_letter base.Binary = 98
base_letter base.Octal = 111
base_letter base.Hexadecimal = 120

-- a token as it is written, in lower case
abbrev pub spelling : Token → List ℕ
spelling (token.Identifier name) = name
spelling (token.Keyword word) = keyword_text word
spelling (token.Number n) = decimal n
spelling (token.Bit false) = codes "'0'"
spelling (token.Bit true) = codes "'1'"
spelling (token.Quoted text) = 34 ∷ text ++ 34 ∷ []
spelling (token.BitString base digits) = base_letter base ∷ 34 ∷ digits ++ 34 ∷ []
spelling (token.Digits digits) = digits
spelling (token.Sign sign) = sign_text sign

-- the bytes
abbrev pub text_of : List Written → List ℕ
text_of [] = []
text_of (gap ∷ ws) = 32 ∷ text_of ws
text_of (turn ∷ ws) = 10 ∷ text_of ws
text_of (says t ∷ ws) = spelling t ++ text_of ws

-- lines are counted up to the greatest number of 32 bits, and stay there
abbrev pub line_behind : ℕ → ℕ
line_behind line = min (line + 1) (2 ^ 32 - 1)

-- the tokens with their lines, where the first stands on this one
abbrev pub placed : ℕ → List Written → List PlacedToken
placed line [] = []
placed line (gap ∷ ws) = placed line ws
placed line (turn ∷ ws) = placed (line_behind line) ws
placed line (says t ∷ ws) = record { token = t; line = line } ∷ placed line ws

-- the line on which these end
abbrev pub line_of : ℕ → List Written → ℕ
line_of line [] = line
line_of line (gap ∷ ws) = line_of line ws
line_of line (turn ∷ ws) = line_of (line_behind line) ws
line_of line (says t ∷ ws) = line_of line ws
