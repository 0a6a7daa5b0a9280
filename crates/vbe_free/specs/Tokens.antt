-- Bits that a source leaves free, in its tokens.
--
-- A source without them has CHOICE = expression [when expression else CHOICE]. With them it has CHOICE = ALT [when expression else
-- CHOICE], where an ALT is an expression or `'d'`, three tokens; all else of the grammar stays. In a sentence an ALT stands behind `<=`
-- (outside of blocks), behind `guarded` and behind `else`, and behind nothing else; and behind it stands `when`, `after` or `;`, while
-- an expression may go on with an operator. So `'d'` is one operand, where it is a whole ALT: the tokens with that operand in place of
-- the three are a sentence of the grammar without free bits exactly where the tokens are one with them, and both go wrong at one token.
use Rattle.std.specs.Prelude.{ℕ, Bool, true, false, ◌&&◌, ◌||◌, bytes_eq, List, [], ◌∷◌, codes, if◌then◌else◌}
use Rattle.vhdl_token.specs.declared.keyword.Keyword.TheVariants as word
use Rattle.vhdl_token.specs.declared.token.Sign.TheVariants as sign
use Rattle.vhdl_token.specs.declared.token.Token.TheVariants as token
use Rattle.vhdl_token.specs.declared.token.PlacedToken.{PlacedToken}
use Rattle.vhdl_token.specs.declared.token.Tokens.{Tokens}
use Rattle.grammar_theory.specs.declared.form.Form.TheVariants as form
use Rattle.grammar_theory.specs.Tokens.{is_of}
use Rattle.vhdl_front.specs.Cursor.{name_of}

-- the name that stands for a free bit: no identifier of a text has quotes
abbrev pub free_name : List ℕ
free_name = codes "'d'"

-- a free bit as one operand, on the line of its first token
abbrev pub operand : ℕ → PlacedToken
operand line = record { token = token.Identifier free_name; line = line }

-- three tokens that are `'d'`
abbrev pub is_free : PlacedToken → PlacedToken → PlacedToken → Bool
is_free t u v = is_of (form.Sign sign.Tick) t && (is_of form.Identifier u && (bytes_eq (name_of u) (codes "d") && is_of (form.Sign sign.Tick) v))

-- an ALT begins behind this token
abbrev pub begins_alternative : PlacedToken → Bool
begins_alternative t = is_of (form.Sign sign.Assign) t || (is_of (form.Keyword word.Guarded) t || is_of (form.Keyword word.Else) t)

-- an ALT ends before this token
abbrev pub ends_alternative : PlacedToken → Bool
ends_alternative t = is_of (form.Sign sign.Semicolon) t || (is_of (form.Keyword word.When) t || is_of (form.Keyword word.After) t)

-- What stands behind a free bit. A token that doesn't end the ALT is wrong there: a second operand on its line, where none can stand,
-- makes the grammar say so.
abbrev pub behind_free : List PlacedToken → List PlacedToken → List PlacedToken
behind_free [] read = read
behind_free (t ∷ _) read = if ends_alternative t then read else operand t.line ∷ read

abbrev pub begins_free : List PlacedToken → Bool
begins_free (t ∷ u ∷ v ∷ _) = is_free t u v
begins_free _ = false

-- what is read of the next tokens, with what is read of those behind them: a free bit, or the first of them as it is
abbrev pub next_read : Bool → List PlacedToken → List PlacedToken → List PlacedToken
next_read true (t ∷ u ∷ v ∷ rest) read = operand t.line ∷ behind_free rest read
next_read false (t ∷ _) read = t ∷ read
next_read _ _ read = read

-- whether an ALT begins behind the next tokens
abbrev pub begins_next : Bool → List PlacedToken → Bool
begins_next true tokens = false
begins_next false [] = false
begins_next false (t ∷ _) = begins_alternative t

-- the tokens with each free bit as one operand; the flag says whether an ALT begins with the first of them
abbrev pub free_operands : Bool → List PlacedToken → List PlacedToken
free_operands begins [] = []
free_operands begins (t ∷ []) = t ∷ []
free_operands begins (t ∷ u ∷ []) = t ∷ u ∷ []
free_operands begins (t ∷ u ∷ v ∷ rest) =
    if begins && is_free t u v then operand t.line ∷ behind_free rest (free_operands false rest)
    else t ∷ free_operands (begins_alternative t) (u ∷ v ∷ rest)

abbrev pub with_operands : Tokens → Tokens
with_operands tokens = record tokens { items = free_operands false tokens.items }

-- ---- whether something is left free

-- whether some `'d'` stands where an ALT begins; the flag says whether one begins with the first of the tokens
abbrev pub leaves : Bool → List PlacedToken → Bool
leaves begins [] = false
leaves begins (t ∷ rest) = begins && begins_free (t ∷ rest) || leaves (begins_alternative t) rest
