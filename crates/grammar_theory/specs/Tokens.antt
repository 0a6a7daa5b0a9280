-- What a grammar asks of a token, and a number for each answer, by which sets of tokens are told.
use Rattle.std.specs.Prelude.{ℕ, ◌+◌, Bool, true, false, List, [], ◌∷◌, ◌==◌, ◌&&◌, ◌||◌, nat_le, if◌then◌else◌}
use Rattle.std.specs.List.{list_all}
use Rattle.vhdl_token.specs.Keyword.{keyword_number}
use Rattle.vhdl_token.specs.Signs.{sign_number}
use Rattle.vlsi_base.specs.declared.radix.Radix.{Radix}
use Rattle.vlsi_base.specs.declared.radix.Radix.TheVariants as base
use Rattle.vhdl_token.specs.declared.token.Token.{Token}
use Rattle.vhdl_token.specs.declared.token.Token.TheVariants as token
use Rattle.vhdl_token.specs.declared.token.PlacedToken.{PlacedToken}
use Rattle.grammar_theory.specs.declared.form.Form.{Form}
use Rattle.grammar_theory.specs.declared.form.Form.TheVariants as form

-- 0 or 1
abbrev pub is_bit : ℕ → Bool
is_bit c = c == 48 || c == 49

-- a digit of the base, the letters in either case
abbrev pub is_digit_of : Radix → ℕ → Bool
is_digit_of base.Binary c = is_bit c
is_digit_of base.Octal c = nat_le 48 c && nat_le c 55
is_digit_of base.Hexadecimal c = (nat_le 48 c && nat_le c 57) || ((nat_le 97 c && nat_le c 102) || (nat_le 65 c && nat_le c 70))

abbrev pub form_of : Token → Form
form_of (token.Identifier name) = form.Identifier
form_of (token.Keyword word) = form.Keyword word
form_of (token.Number n) = form.Number
form_of (token.Bit b) = form.Bit
form_of (token.Quoted text) = if list_all is_bit text then form.BitText else form.OtherText
form_of (token.BitString base digits) = if list_all (is_digit_of base) digits then form.BitString else form.OtherBitString
form_of (token.Digits digits) = form.Digits
form_of (token.Sign s) = form.Sign s

-- a number for each form
abbrev pub code : Form → ℕ
code form.Identifier = 0
code form.Number = 1
code form.Bit = 2
code form.BitText = 3
code form.OtherText = 4
code form.BitString = 5
code form.OtherBitString = 6
code form.Digits = 7
code (form.Sign s) = 10 + sign_number s
code (form.Keyword word) = 40 + keyword_number word

unfoldable pub code_of : PlacedToken → ℕ
code_of t = code (form_of t.token)

-- whether the token is of this form
abbrev pub is_of : Form → PlacedToken → Bool
is_of f t = code_of t == code f

-- whether the next token is of this form
abbrev pub is_at : Form → List PlacedToken → Bool
is_at f [] = false
is_at f (t ∷ ts) = is_of f t

abbrev pub elem : ℕ → List ℕ → Bool
elem n [] = false
elem n (k ∷ ks) = if n == k then true else elem n ks

-- whether the next token is of one of these forms
abbrev pub among : List ℕ → List PlacedToken → Bool
among ks [] = false
among ks (t ∷ ts) = elem (code_of t) ks
