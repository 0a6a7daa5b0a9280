-- Which texts of bytes are machines whose outputs are left free in part, and why others aren't.
use Rattle.std.specs.Prelude.{◌≡◌, ℕ, Bool, true, false, ◌&&◌, min, is_none, nat_le, List, [], ◌∷◌, length, Option, None, Some}
use Rattle.vlsi_base.specs.declared.limits.TheConstants.{MOST_SOURCE_BYTES}
use Rattle.vlsi_base.specs.declared.fault.FaultKind.{FaultKind}
use Rattle.vlsi_base.specs.declared.fault.FaultKind.TheVariants as fault_kind
use Rattle.vlsi_base.specs.declared.fault.ReadError.{ReadError}
use Rattle.vlsi_base.specs.declared.fault.ReadError.TheVariants as errors
use Rattle.vhdl_lexer.specs.Listing.{tokens_in, refusal_in}
use Rattle.source_checks.specs.declared.statement.DesignFile.{DesignFile}
use Rattle.source_checks.specs.Symbols.{symbols}
use Rattle.source_checks.specs.Checks.{fault, first_fault, Passes, IsRefusedFor}
use Rattle.source_checks.specs.Elaboration.{IsMachineOf}
use Rattle.vbe_text.specs.Source.{SourceTree, source_view}
use Rattle.vbe_text.specs.Vbe.{IsSource, RefusedAs}
use Rattle.machine_free.specs.declared.machine.FreeMachine.{FreeMachine}
use Rattle.machine_free.specs.Free.{AreFree}
use Rattle.vbe_free.specs.Tokens.{with_operands, leaves}
use Rattle.vbe_free.specs.Filled.{filled, free_forms}

-- The bytes are few enough and are cut into tokens, and in these some `'d'` stands where an alternative begins. A text of which this
-- isn't so is read as one without free bits, where each `'d'` is a fault.
abbrev pub leaves_free : List ℕ → Bool
leaves_free bytes = nat_le (length bytes) MOST_SOURCE_BYTES && (is_none (refusal_in bytes) && leaves false (tokens_in bytes).items)

-- what is written, with the operand for free bits in it
abbrev pub IsFreeWritten : List ℕ → SourceTree → Type 0
IsFreeWritten bytes source = IsSource (with_operands (tokens_in bytes)) source

-- The bytes are a data-flow text that passes all checks, those of the text with each free bit 0, and each of its free bits is assigned
-- to an output bit that no expression reads; and these are its machines with each free bit 0 and with each 1.
pub record IsFreeVbe (bytes : List ℕ) (m : FreeMachine) : Type 0 where
  pub text : DesignFile
  pub low : DesignFile
  pub high : DesignFile
  pub written : IsFreeWritten bytes (source_view text)
  pub zeros : source_view low ≡ filled false (source_view text)
  pub ones : source_view high ≡ filled true (source_view text)
  pub passes : Passes low
  pub placed : free_forms (symbols low) (source_view text) ≡ []
  pub first : IsMachineOf low m.low
  pub second : IsMachineOf high m.high
  pub agree : AreFree m.low m.high

-- the checks before that for forms that are left out
abbrev pub is_earlier : FaultKind → Bool
is_earlier fault_kind.Twice = true
is_earlier fault_kind.Unknown = true
is_earlier fault_kind.Width = true
is_earlier fault_kind.TwoDrivers = true
is_earlier fault_kind.Undriven = true
is_earlier _ = false

-- A free bit where none may stand, on this line, is a form that is left out: it is refused behind the checks before that for such forms,
-- and of such forms the first in the file is.
abbrev pub unsupported : ℕ → ReadError
unsupported line = fault fault_kind.Unsupported line []

abbrev pub or_form : ℕ → Bool → FaultKind → ReadError → ℕ → ReadError
or_form line true k e at = e
or_form line false fault_kind.Unsupported e at = unsupported (min at line)
or_form line false k e at = unsupported line

abbrev pub with_form : ℕ → ReadError → ReadError
with_form line errors.Memory = unsupported line
with_form line (errors.Input f) = or_form line (is_earlier f.kind) f.kind (errors.Input f) f.line
with_form line (errors.Limit l) = unsupported line

abbrev pub with_forms : List ℕ → Option ReadError → Option ReadError
with_forms [] e = e
with_forms (line ∷ _) None = Some (unsupported line)
with_forms (line ∷ _) (Some e) = Some (with_form line e)

-- why what is written is no such machine
pub data IsFaulty (source : SourceTree) (low : DesignFile) (e : ReadError) : Type 0 where
  -- every free bit stands where it may
  placed : free_forms (symbols low) source ≡ [] → IsRefusedFor low e → IsFaulty source low e
  -- some don't, the first of them on this line
  misplaced : (line : ℕ) (more : List ℕ) → free_forms (symbols low) source ≡ line ∷ more
      → with_forms (line ∷ more) (first_fault low) ≡ Some e → IsFaulty source low e

-- Why bytes that leave something free are no such machine, in this order: the tokens are no text, or a check fails. Out of memory is no
-- reason.
pub data RefusedFree (bytes : List ℕ) (e : ReadError) : Type 0 where
  unwritten : RefusedAs (with_operands (tokens_in bytes)) e → RefusedFree bytes e
  faulty : (source : SourceTree) (low : DesignFile) → IsFreeWritten bytes source → source_view low ≡ filled false source
      → IsFaulty source low e → RefusedFree bytes e

-- the refusal, or memory has run out
abbrev pub IsFreeRefusal : List ℕ → ReadError → Type 0
IsFreeRefusal bytes errors.Memory = Unit {0}
IsFreeRefusal bytes (errors.Input f) = RefusedFree bytes (errors.Input f)
IsFreeRefusal bytes (errors.Limit l) = RefusedFree bytes (errors.Limit l)
