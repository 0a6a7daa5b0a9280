-- From bytes to what they are.
use Rattle.std.proofs.Common.{◌≡◌, ◌≤◌, ℕ, List, length, None, subst, Result, Ok, Err, IfErr}
use Rattle.vlsi_base.specs.declared.limits.TheConstants.{MOST_SOURCE_BYTES}
use Rattle.vlsi_base.specs.declared.pragma.Pragma.{Pragma}
use Rattle.vlsi_base.specs.declared.fault.ReadError.{ReadError}
use Rattle.vlsi_base.specs.declared.fault.ReadError.TheVariants as errors
use Rattle.vhdl_token.specs.declared.token.Tokens.{Tokens}
use Rattle.vhdl_lexer.specs.Listing.{tokens_in, refusal_in}
use Rattle.fsm_machine.specs.Fsm.{Fsm}
use Rattle.fsm_text.specs.Written.{MachineTree}
use Rattle.fsm_text.specs.Texts.{IsMachine, RefusedAs, IsRefusedMachine}
use Rattle.fsm_io.specs.Checks.{Passes, IsRefusedFor}
use Rattle.fsm_io.specs.Text.{IsWritten, IsFsm, Refused, unwritten, faulty, IsFsmRefusal}
use Rattle.fsm_io.specs.Verdict.{IsPassed, IsRefusedOrMemory}

pub written : (bytes : List ℕ) (tokens : Tokens) (m : MachineTree) → length bytes ≤ MOST_SOURCE_BYTES → refusal_in bytes ≡ None → tokens ≡ tokens_in bytes → IsMachine tokens m → IsWritten bytes m
written bytes tokens m few cut is h = record { few = few; cut = cut; machine = subst (λ (t : Tokens). IsMachine t m) is h }

unwritten_for : (bytes : List ℕ) (tokens : Tokens) (e : ReadError) → length bytes ≤ MOST_SOURCE_BYTES → refusal_in bytes ≡ None → tokens ≡ tokens_in bytes → RefusedAs tokens e → Refused bytes e
unwritten_for bytes tokens e few cut is h = unwritten few cut (subst (λ (t : Tokens). RefusedAs t e) is h)

pub unwritten_refused : (bytes : List ℕ) (tokens : Tokens) (e : ReadError) → length bytes ≤ MOST_SOURCE_BYTES → refusal_in bytes ≡ None → tokens ≡ tokens_in bytes → IsRefusedMachine tokens e → IsFsmRefusal bytes e
unwritten_refused bytes tokens errors.Memory few cut is h = tt
unwritten_refused bytes tokens (errors.Input f) few cut is h = unwritten_for bytes tokens (errors.Input f) few cut is h
unwritten_refused bytes tokens (errors.Limit l) few cut is h = unwritten_for bytes tokens (errors.Limit l) few cut is h

pub is_fsm : (bytes : List ℕ) (tokens : Tokens) (m : MachineTree) (pragmas : List Pragma) (f : Fsm) → IsWritten bytes m → tokens ≡ tokens_in bytes → pragmas ≡ tokens.pragmas → IsPassed m pragmas f → IsFsm bytes f
is_fsm bytes tokens m pragmas f w is these p = record {
  tree = m;
  names = p.names;
  written = w;
  passes = subst (λ (t : Tokens). Passes m t.pragmas p.names) is (subst (λ (ps : List Pragma). Passes m ps p.names) these p.passes);
  machine = p.machine;
}

faulty_for : (bytes : List ℕ) (tokens : Tokens) (m : MachineTree) (pragmas : List Pragma) (e : ReadError) → IsWritten bytes m → tokens ≡ tokens_in bytes → pragmas ≡ tokens.pragmas → IsRefusedFor m pragmas e → Refused bytes e
faulty_for bytes tokens m pragmas e w is these h = faulty m w (subst (λ (t : Tokens). IsRefusedFor m t.pragmas e) is (subst (λ (ps : List Pragma). IsRefusedFor m ps e) these h))

pub faulty_refused : (bytes : List ℕ) (tokens : Tokens) (m : MachineTree) (pragmas : List Pragma) (e : ReadError) → IsWritten bytes m → tokens ≡ tokens_in bytes → pragmas ≡ tokens.pragmas → IsRefusedOrMemory m pragmas e → IsFsmRefusal bytes e
faulty_refused bytes tokens m pragmas errors.Memory w is these h = tt
faulty_refused bytes tokens m pragmas (errors.Input f) w is these h = faulty_for bytes tokens m pragmas (errors.Input f) w is these h
faulty_refused bytes tokens m pragmas (errors.Limit l) w is these h = faulty_for bytes tokens m pragmas (errors.Limit l) w is these h

pub in_err : {X : Type 0} {P Q : ReadError → Type 0} → ((e : ReadError) → P e → Q e) → (r : Result X ReadError) → IfErr r P → IfErr r Q
in_err step (Ok x) is = tt
in_err step (Err e) is = step e is
