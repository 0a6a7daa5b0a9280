-- With free bits as operands there are no more tokens.
use Rattle.std.proofs.Common.{◌≡◌, ◌≤◌, ℕ, suc, Bool, true, false, ◌&&◌, cond, List, [], ◌∷◌, length, arith, ap}
use Rattle.vlsi_base.specs.declared.limits.TheConstants.{MOST_SOURCE_BYTES}
use Rattle.vhdl_token.specs.declared.token.Sign.TheVariants as sign
use Rattle.vhdl_token.specs.declared.token.PlacedToken.{PlacedToken}
use Rattle.vhdl_token.specs.declared.token.Tokens.{Tokens}
use Rattle.vhdl_lexer.specs.Listing.{tokens_in}
use Rattle.grammar_theory.specs.declared.form.Form.TheVariants as form
use Rattle.grammar_theory.specs.Tokens.{is_of}
use Rattle.free_tokens.specs.Tokens.{operand, is_free}
use Rattle.fsm_io.proofs.Few.{tokens_few}
use Rattle.fsm_free.specs.declared.tokens.Place.{Place}
use Rattle.fsm_free.specs.declared.tokens.Place.TheVariants as place
use Rattle.fsm_free.specs.Tokens.{begins_value, place_after, behind_free, free_operands, with_operands}
use Rattle.fsm_free.specs.Pieces.{AreTokens}

behind_few : (rest read : List PlacedToken) → length (behind_free rest read) ≤ suc (length read)
behind_few [] read = omega arith
behind_few (t ∷ rest) read = by (is_of (form.Sign sign.Semicolon) t) where
  by : (c : Bool) → length (cond c read (operand t.line ∷ read)) ≤ suc (length read)
  by true = omega arith
  by false = omega arith

either_few : (t : PlacedToken) (rest read more : List PlacedToken) → length read ≤ length rest → length more ≤ suc (suc (length rest)) → (c : Bool)
    → length (cond c (operand t.line ∷ behind_free rest read) (t ∷ more)) ≤ suc (suc (suc (length rest)))
either_few t rest read more few other true = let one = behind_few rest read in omega (arith, few, one)
either_few t rest read more few other false = omega (arith, other)

operands_few : (begins : Bool) (here : Place) (tokens : List PlacedToken) → length (free_operands begins here tokens) ≤ length tokens
operands_few begins here [] = omega arith
operands_few begins here (t ∷ []) = omega arith
operands_few begins here (t ∷ u ∷ []) = omega arith
operands_few begins here (t ∷ u ∷ v ∷ rest) =
    either_few t rest (free_operands false here rest) (free_operands (begins_value here t) (place_after here t) (u ∷ v ∷ rest))
    (operands_few false here rest) (operands_few (begins_value here t) (place_after here t) (u ∷ v ∷ rest)) (begins && is_free t u v)

pub few_tokens : (bytes : List ℕ) (tokens made : Tokens) → AreTokens bytes tokens → made ≡ with_operands tokens → length made.items ≤ MOST_SOURCE_BYTES
few_tokens bytes tokens made are is =
    let same : length made.items ≡ length (free_operands false place.Before tokens.items) = ap (λ (ts : Tokens). length ts.items) is in
    let less = operands_few false place.Before tokens.items in
    let cut : length tokens.items ≡ length (tokens_in bytes).items = ap (λ (ts : Tokens). length ts.items) are.are in
    let read = tokens_few bytes in
    let few = are.few in
    omega (arith, same, less, cut, read, few)
