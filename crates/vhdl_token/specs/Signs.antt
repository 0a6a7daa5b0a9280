-- Signs as they are spelled, and a number for each, by which sets of tokens are told.
use Rattle.std.specs.Prelude.{ℕ, List, codes}
use Rattle.vhdl_token.specs.declared.token.Sign.{Sign}
use Rattle.vhdl_token.specs.declared.token.Sign.TheVariants as sign

abbrev pub sign_text : Sign → List ℕ
sign_text sign.LeftParen = codes "("
sign_text sign.RightParen = codes ")"
sign_text sign.Comma = codes ","
sign_text sign.Semicolon = codes ";"
sign_text sign.Colon = codes ":"
sign_text sign.Assign = codes "<="
sign_text sign.Arrow = codes "=>"
sign_text sign.Default = codes ":="
sign_text sign.Equal = codes "="
sign_text sign.Unequal = codes "/="
sign_text sign.Ampersand = codes "&"
sign_text sign.Bar = codes "|"
sign_text sign.Tick = codes "'"
sign_text sign.Less = codes "<"
sign_text sign.Greater = codes ">"
sign_text sign.Plus = codes "+"
sign_text sign.Question = codes "?"
sign_text sign.Star = codes "*"

abbrev pub sign_number : Sign → ℕ
sign_number sign.LeftParen = 0
sign_number sign.RightParen = 1
sign_number sign.Comma = 2
sign_number sign.Semicolon = 3
sign_number sign.Colon = 4
sign_number sign.Assign = 5
sign_number sign.Arrow = 6
sign_number sign.Default = 7
sign_number sign.Equal = 8
sign_number sign.Unequal = 9
sign_number sign.Ampersand = 10
sign_number sign.Bar = 11
sign_number sign.Tick = 12
sign_number sign.Less = 13
sign_number sign.Greater = 14
sign_number sign.Plus = 15
sign_number sign.Question = 16
sign_number sign.Star = 17
