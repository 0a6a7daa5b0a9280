-- A bit that a text leaves free: three tokens, which readers take as one operand.
use Rattle.std.specs.Prelude.{ℕ, Bool, false, ◌&&◌, bytes_eq, List, ◌∷◌, codes}
use Rattle.vhdl_token.specs.declared.token.Sign.TheVariants as sign
use Rattle.vhdl_token.specs.declared.token.Token.TheVariants as token
use Rattle.vhdl_token.specs.declared.token.PlacedToken.{PlacedToken}
use Rattle.grammar_theory.specs.declared.form.Form.TheVariants as form
use Rattle.grammar_theory.specs.Tokens.{is_of}
use Rattle.vhdl_front.specs.Cursor.{name_of}

-- the name that stands for a free bit: no identifier of a text has quotes
abbrev pub free_name : List ℕ
free_name = codes "'d'"

-- a free bit as one operand, on the line of its first token
abbrev pub operand : ℕ → PlacedToken
operand line = record { token = token.Identifier free_name; line = line }

-- three tokens that are `'d'`
abbrev pub is_free : PlacedToken → PlacedToken → PlacedToken → Bool
is_free t u v = is_of (form.Sign sign.Tick) t && (is_of form.Identifier u && (bytes_eq (name_of u) (codes "d") && is_of (form.Sign sign.Tick) v))

abbrev pub begins_free : List PlacedToken → Bool
begins_free (t ∷ u ∷ v ∷ _) = is_free t u v
begins_free _ = false
