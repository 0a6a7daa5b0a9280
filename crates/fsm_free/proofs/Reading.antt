-- From bytes to what they are.
use Rattle.std.proofs.Common.{◌≡◌, ◌≤◌, ◌<◌, ℕ, ◌+◌, Bool, true, false, ◌&&◌, List, length, Option, None, Some, refl, sym, ap, subst, ◌∙◌}
use Rattle.std.specs.Prelude.{is_none, nat_le}
use Rattle.std.proofs.lemmas.Bool.{le-leb, lt-leb}
use Rattle.vlsi_base.specs.declared.limits.TheConstants.{MOST_SOURCE_BYTES}
use Rattle.vlsi_base.specs.declared.fault.LimitKind.TheVariants as limit
use Rattle.vlsi_base.specs.declared.fault.ReadError.{ReadError}
use Rattle.vlsi_base.specs.declared.fault.ReadError.TheVariants as errors
use Rattle.lexer_base.specs.Listing.{IsRefusal}
use Rattle.vhdl_token.specs.declared.token.Tokens.{Tokens}
use Rattle.vhdl_lexer.specs.Listing.{tokens_in, refusal_in}
use Rattle.fsm_machine.specs.Fsm.{Fsm}
use Rattle.fsm_text.specs.Written.{MachineTree}
use Rattle.fsm_text.specs.Texts.{IsMachine, RefusedAs}
use Rattle.fsm_io.specs.Checks.{IsRefusedFor}
use Rattle.fsm_io.specs.Text.{IsFsm, Refused, long, uncut, IsFsmRefusal}
use Rattle.state_free.specs.declared.state_machine.FreeStateMachine.{FreeStateMachine}
use Rattle.fsm_free.specs.declared.tokens.Place.TheVariants as place
use Rattle.fsm_free.specs.declared.reader.FsmSource.{FsmSource}
use Rattle.fsm_free.specs.declared.reader.FsmSource.TheVariants as source
use Rattle.fsm_free.specs.Tokens.{has_free, with_operands, leaves_free}
use Rattle.fsm_free.specs.Filled.{filled}
use Rattle.fsm_free.specs.Text as text
use Rattle.fsm_free.specs.Pieces as pieces

-- ---- whether something is left free

long_leaves : (bytes : List ℕ) → MOST_SOURCE_BYTES < length bytes → leaves_free bytes ≡ false
long_leaves bytes h = ap (λ (b : Bool). b && (is_none (refusal_in bytes) && has_free false place.Before (tokens_in bytes).items)) (lt-leb (length bytes) MOST_SOURCE_BYTES h)

and_false : (b : Bool) → (b && false) ≡ false
and_false true = refl
and_false false = refl

uncut_leaves : (bytes : List ℕ) (e : ReadError) → refusal_in bytes ≡ Some e → leaves_free bytes ≡ false
uncut_leaves bytes e h =
    ap (λ (o : Option ReadError). nat_le (length bytes) MOST_SOURCE_BYTES && (is_none o && has_free false place.Before (tokens_in bytes).items)) h
    ∙ and_false (nat_le (length bytes) MOST_SOURCE_BYTES)

pub leaves : (bytes : List ℕ) (tokens : Tokens) (b : Bool) → pieces.AreTokens bytes tokens → b ≡ has_free false place.Before tokens.items → leaves_free bytes ≡ b
leaves bytes tokens b are is =
    ap (λ (x : Bool). x && (is_none (refusal_in bytes) && has_free false place.Before (tokens_in bytes).items)) (le-leb (length bytes) MOST_SOURCE_BYTES are.few)
    ∙ ap (λ (o : Option ReadError). is_none o && has_free false place.Before (tokens_in bytes).items) are.cut
    ∙ ap (λ (t : Tokens). has_free false place.Before t.items) (sym are.are) ∙ sym is

-- ---- texts that aren't cut into tokens

pub are_tokens : (bytes : List ℕ) (tokens : Tokens) → length bytes ≤ MOST_SOURCE_BYTES → refusal_in bytes ≡ None → tokens ≡ tokens_in bytes → pieces.AreTokens bytes tokens
are_tokens bytes tokens few cut is = record { few = few; cut = cut; are = is }

pub long_refused : (bytes : List ℕ) → MOST_SOURCE_BYTES < length bytes → text.IsSourceRefusal bytes (errors.Limit (record { which = limit.File; reached = MOST_SOURCE_BYTES + 1 }))
long_refused bytes h = text.fixed (long_leaves bytes h) (long h refl)

uncut_plain : (bytes : List ℕ) (e : ReadError) → length bytes ≤ MOST_SOURCE_BYTES → refusal_in bytes ≡ Some e → text.RefusedSource bytes e
uncut_plain bytes e few h = text.fixed (uncut_leaves bytes e h) (uncut few h)

pub uncut_refused : (bytes : List ℕ) (e : ReadError) → length bytes ≤ MOST_SOURCE_BYTES → IsRefusal e (refusal_in bytes) → text.IsSourceRefusal bytes e
uncut_refused bytes errors.Memory few h = tt
uncut_refused bytes (errors.Input f) few h = uncut_plain bytes (errors.Input f) few h
uncut_refused bytes (errors.Limit l) few h = uncut_plain bytes (errors.Limit l) few h

-- ---- texts that leave bits free

free_plain : (bytes : List ℕ) (tokens : Tokens) (e : ReadError) → pieces.AreTokens bytes tokens → pieces.RefusedFilled (with_operands tokens) e → text.RefusedFree bytes e
free_plain bytes tokens e are (pieces.unwritten h) = text.unwritten are.few are.cut (subst (λ (t : Tokens). RefusedAs (with_operands t) e) are.are h)
free_plain bytes tokens e are (pieces.faulty m is h) =
    text.faulty m (record { few = are.few; cut = are.cut; machine = subst (λ (t : Tokens). IsMachine (with_operands t) m) are.are is })
    (subst (λ (t : Tokens). IsRefusedFor (filled false m) t.pragmas e) are.are h)

free_with : (bytes : List ℕ) (tokens : Tokens) (e : ReadError) → pieces.AreTokens bytes tokens → pieces.IsFilledRefusal (with_operands tokens) e → text.IsFreeRefusal bytes e
free_with bytes tokens errors.Memory are h = tt
free_with bytes tokens (errors.Input f) are h = free_plain bytes tokens (errors.Input f) are h
free_with bytes tokens (errors.Limit l) are h = free_plain bytes tokens (errors.Limit l) are h

pub free_refused : (bytes : List ℕ) (tokens made : Tokens) (e : ReadError) → pieces.AreTokens bytes tokens → made ≡ with_operands tokens → pieces.IsFilledRefusal made e → text.IsFreeRefusal bytes e
free_refused bytes tokens made e are is h = free_with bytes tokens e are (subst (λ (t : Tokens). pieces.IsFilledRefusal t e) is h)

filled_free : (bytes : List ℕ) (f : FreeStateMachine) → length bytes ≤ MOST_SOURCE_BYTES → refusal_in bytes ≡ None → pieces.AreFilled (with_operands (tokens_in bytes)) f → text.IsFreeFsm bytes f
filled_free bytes f few cut h = record {
  tree = h.0;
  names = h.2.names;
  written = record { few = few; cut = cut; machine = h.1 };
  passes = h.2.passes;
  low = h.2.low;
  high = h.2.high;
  agree = h.2.agree;
}

pub is_free : (bytes : List ℕ) (tokens made : Tokens) (f : FreeStateMachine) → pieces.AreTokens bytes tokens → made ≡ with_operands tokens → pieces.AreFilled made f → text.IsFreeFsm bytes f
is_free bytes tokens made f are is h =
    filled_free bytes f are.few are.cut (subst (λ (t : Tokens). pieces.AreFilled t f) (is ∙ ap with_operands are.are) h)

-- ---- what a text is

pub source_free : (bytes : List ℕ) (tokens : Tokens) (b : Bool) (f : FreeStateMachine) → pieces.AreTokens bytes tokens → b ≡ has_free false place.Before tokens.items → b ≡ true
    → text.IsFreeFsm bytes f → text.IsSource bytes (source.Free f)
source_free bytes tokens b f are is some h = (leaves bytes tokens b are is ∙ some, h)

pub source_fixed : (bytes : List ℕ) (tokens : Tokens) (b : Bool) (f : Fsm) → pieces.AreTokens bytes tokens → b ≡ has_free false place.Before tokens.items → b ≡ false
    → IsFsm bytes f → text.IsSource bytes (source.Fixed f)
source_fixed bytes tokens b f are is none h = (leaves bytes tokens b are is ∙ none, h)

pub refused_free : (bytes : List ℕ) (tokens : Tokens) (b : Bool) (e : ReadError) → pieces.AreTokens bytes tokens → b ≡ has_free false place.Before tokens.items → b ≡ true
    → text.IsFreeRefusal bytes e → text.IsSourceRefusal bytes e
refused_free bytes tokens b errors.Memory are is some h = tt
refused_free bytes tokens b (errors.Input f) are is some h = text.free (leaves bytes tokens b are is ∙ some) h
refused_free bytes tokens b (errors.Limit l) are is some h = text.free (leaves bytes tokens b are is ∙ some) h

pub refused_fixed : (bytes : List ℕ) (tokens : Tokens) (b : Bool) (e : ReadError) → pieces.AreTokens bytes tokens → b ≡ has_free false place.Before tokens.items → b ≡ false
    → IsFsmRefusal bytes e → text.IsSourceRefusal bytes e
refused_fixed bytes tokens b errors.Memory are is none h = tt
refused_fixed bytes tokens b (errors.Input f) are is none h = text.fixed (leaves bytes tokens b are is ∙ none) h
refused_fixed bytes tokens b (errors.Limit l) are is none h = text.fixed (leaves bytes tokens b are is ∙ none) h
