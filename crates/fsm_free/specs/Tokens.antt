-- Bits that a state machine leaves free, in its tokens.
--
-- With them a statement has the further form TARGET <= 'd' ; where 'd' is three tokens; all else of the grammar stays. The statements
-- stand between the first and the second word `process`, and there `<=` stands in assignments alone, behind the target. So `'d'` is one
-- operand, where it begins a value: the tokens with that operand in place of the three are a sentence of the grammar without free bits
-- exactly where the tokens are one with them, and both go wrong at one token.
use Rattle.std.specs.Prelude.{◌≤◌, ℕ, Bool, true, false, ◌&&◌, ◌||◌, nat_le, is_none, List, [], ◌∷◌, length, if◌then◌else◌}
use Rattle.vlsi_base.specs.declared.limits.TheConstants.{MOST_SOURCE_BYTES}
use Rattle.vhdl_token.specs.declared.keyword.Keyword.TheVariants as word
use Rattle.vhdl_token.specs.declared.token.Sign.TheVariants as sign
use Rattle.vhdl_token.specs.declared.token.PlacedToken.{PlacedToken}
use Rattle.vhdl_token.specs.declared.token.Tokens.{Tokens}
use Rattle.vhdl_lexer.specs.Listing.{tokens_in, refusal_in}
use Rattle.grammar_theory.specs.declared.form.Form.TheVariants as form
use Rattle.grammar_theory.specs.Tokens.{is_of}
use Rattle.free_tokens.specs.Tokens.{operand, is_free}
use Rattle.fsm_free.specs.declared.tokens.Place.{Place}
use Rattle.fsm_free.specs.declared.tokens.Place.TheVariants as place

abbrev pub next_place : Place → Place
next_place place.Before = place.Within
next_place place.Within = place.Behind
next_place place.Behind = place.Behind

-- where the token behind this one stands
abbrev pub place_after : Place → PlacedToken → Place
place_after here t = if is_of (form.Keyword word.Process) t then next_place here else here

-- a value begins behind this token
abbrev pub begins_value : Place → PlacedToken → Bool
begins_value place.Before t = false
begins_value place.Within t = is_of (form.Sign sign.Assign) t
begins_value place.Behind t = false

-- What stands behind a free bit. A token that doesn't end the statement is wrong there: a second operand on its line, where none can
-- stand, makes the grammar say so.
abbrev pub behind_free : List PlacedToken → List PlacedToken → List PlacedToken
behind_free [] read = read
behind_free (t ∷ _) read = if is_of (form.Sign sign.Semicolon) t then read else operand t.line ∷ read

-- the tokens with each free bit as one operand; said are where the first of them stands, and whether a value begins with it
abbrev pub free_operands : Bool → Place → List PlacedToken → List PlacedToken
free_operands begins here [] = []
free_operands begins here (t ∷ []) = t ∷ []
free_operands begins here (t ∷ u ∷ []) = t ∷ u ∷ []
free_operands begins here (t ∷ u ∷ v ∷ rest) =
    if begins && is_free t u v then operand t.line ∷ behind_free rest (free_operands false here rest)
    else t ∷ free_operands (begins_value here t) (place_after here t) (u ∷ v ∷ rest)

-- whether there is a free bit
abbrev pub has_free : Bool → Place → List PlacedToken → Bool
has_free begins here [] = false
has_free begins here (t ∷ []) = false
has_free begins here (t ∷ u ∷ []) = false
has_free begins here (t ∷ u ∷ v ∷ rest) = (begins && is_free t u v) || has_free (begins_value here t) (place_after here t) (u ∷ v ∷ rest)

abbrev pub with_operands : Tokens → Tokens
with_operands tokens = record tokens { items = free_operands false place.Before tokens.items }

-- The bytes are few enough, they are cut into tokens, and a value of some statement begins with a free bit.
abbrev pub leaves_free : List ℕ → Bool
leaves_free bytes = nat_le (length bytes) MOST_SOURCE_BYTES && (is_none (refusal_in bytes) && has_free false place.Before (tokens_in bytes).items)
