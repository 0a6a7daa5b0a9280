-- A refusal of a text, whether it leaves something free or not.
use Rattle.std.proofs.Common.{◌≡◌, inl, inr, ℕ, true, false, List, Option, None, Some, subst}
use Rattle.std.specs.Prelude.{MatchOption}
use Rattle.vlsi_base.specs.declared.fault.ReadError.{ReadError}
use Rattle.vlsi_base.specs.declared.fault.ReadError.TheVariants as errors
use Rattle.vhdl_token.specs.declared.token.Tokens.{Tokens}
use Rattle.vhdl_lexer.specs.Listing.{tokens_in}
use Rattle.vbe_io.specs.Text.{IsVbeRefusal}
use Rattle.vbe_free.specs.Text.{leaves_free, IsFreeRefusal}
use Rattle.vbe_free.specs.Either.{IsVbeSourceRefusal}

-- what is known of a text by its tokens, where it leaves something free
abbrev pub IsTold : List ℕ → Option Tokens → Type 0
IsTold bytes read = MatchOption read (leaves_free bytes ≡ false) (λ t. (leaves_free bytes ≡ true) × (t ≡ tokens_in bytes))

free_either : (bytes : List ℕ) (e : ReadError) → leaves_free bytes ≡ true → IsFreeRefusal bytes e → IsVbeSourceRefusal bytes e
free_either bytes errors.Memory leaves is = tt
free_either bytes (errors.Input f) leaves is = inr (leaves, is)
free_either bytes (errors.Limit l) leaves is = inr (leaves, is)

fixed_either : (bytes : List ℕ) (e : ReadError) → leaves_free bytes ≡ false → IsVbeRefusal bytes e → IsVbeSourceRefusal bytes e
fixed_either bytes errors.Memory leaves is = tt
fixed_either bytes (errors.Input f) leaves is = inl (leaves, is)
fixed_either bytes (errors.Limit l) leaves is = inl (leaves, is)

pub free_refused : (bytes : List ℕ) (read : Option Tokens) (t : Tokens) (e : ReadError) → IsTold bytes read → read ≡ Some t → IsFreeRefusal bytes e → IsVbeSourceRefusal bytes e
free_refused bytes read t e told is refused = let some = subst (IsTold bytes) is told in free_either bytes e some.0 refused

pub fixed_refused : (bytes : List ℕ) (read : Option Tokens) (e : ReadError) → IsTold bytes read → read ≡ None → IsVbeRefusal bytes e → IsVbeSourceRefusal bytes e
fixed_refused bytes read e told is refused = fixed_either bytes e (subst (IsTold bytes) is told) refused
