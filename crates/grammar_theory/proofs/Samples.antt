-- A token of each form.
use Rattle.std.proofs.Common.{◌≡◌, true, [], ◌∷◌, refl}
use Rattle.vlsi_base.specs.declared.radix.Radix.TheVariants as base
use Rattle.vhdl_token.specs.declared.token.Token.{Token}
use Rattle.vhdl_token.specs.declared.token.Token.TheVariants as token
use Rattle.vhdl_token.specs.declared.token.PlacedToken.{PlacedToken}
use Rattle.grammar_theory.specs.declared.form.Form.{Form}
use Rattle.grammar_theory.specs.declared.form.Form.TheVariants as form
use Rattle.grammar_theory.specs.Tokens.{code, code_of}

abbrev token_with : Form → Token
token_with form.Identifier = token.Identifier []
token_with form.Number = token.Number 0
token_with form.Bit = token.Bit true
token_with form.BitText = token.Quoted []
token_with form.OtherText = token.Quoted (0 ∷ [])
token_with form.BitString = token.BitString base.Binary []
token_with form.OtherBitString = token.BitString base.Binary (0 ∷ [])
token_with form.Digits = token.Digits []
token_with (form.Sign s) = token.Sign s
token_with (form.Keyword word) = token.Keyword word

abbrev pub some_of : Form → PlacedToken
some_of f = record { token = token_with f; line = 0 }

pub some_of-code : (f : Form) → code_of (some_of f) ≡ code f
unfolding code_of
some_of-code form.Identifier = refl
some_of-code form.Number = refl
some_of-code form.Bit = refl
some_of-code form.BitText = refl
some_of-code form.OtherText = refl
some_of-code form.BitString = refl
some_of-code form.OtherBitString = refl
some_of-code form.Digits = refl
some_of-code (form.Sign s) = refl
some_of-code (form.Keyword word) = refl
