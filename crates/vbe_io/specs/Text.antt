-- Which texts of bytes are machines, and why others aren't.
use Rattle.std.specs.Prelude.{◌≡◌, ◌≤◌, ◌<◌, ℕ, ◌+◌, List, length, None, Some}
use Rattle.vlsi_base.specs.declared.limits.TheConstants.{MOST_SOURCE_BYTES}
use Rattle.vlsi_base.specs.declared.fault.LimitKind.TheVariants as kind
use Rattle.vlsi_base.specs.declared.fault.ReadError.{ReadError}
use Rattle.vlsi_base.specs.declared.fault.ReadError.TheVariants as errors
use Rattle.vhdl_lexer.specs.Listing.{tokens_in, refusal_in}
use Rattle.machine_core.specs.Machine.{Machine}
use Rattle.source_checks.specs.declared.statement.DesignFile.{DesignFile}
use Rattle.source_checks.specs.Checks.{Passes, IsRefusedFor}
use Rattle.source_checks.specs.Elaboration.{IsMachineOf}
use Rattle.vbe_text.specs.Source.{source_view}
use Rattle.vbe_text.specs.Vbe.{IsSource, RefusedAs}

-- what is written, where the bytes are few enough and are cut into tokens
pub record IsWritten (bytes : List ℕ) (design : DesignFile) : Type 0 where
  pub few : length bytes ≤ MOST_SOURCE_BYTES
  pub cut : refusal_in bytes ≡ None
  pub source : IsSource (tokens_in bytes) (source_view design)

-- The bytes are a data-flow text that passes all checks, and this is its machine.
pub record IsVbe (bytes : List ℕ) (m : Machine) : Type 0 where
  pub design : DesignFile
  pub written : IsWritten bytes design
  pub passes : Passes design
  pub machine : IsMachineOf design m

-- Why bytes are no machine, in this order: there are too many, they aren't cut into tokens, the tokens are no text, or a check
-- fails. Out of memory is no reason.
pub data Refused (bytes : List ℕ) (e : ReadError) : Type 0 where
  long : MOST_SOURCE_BYTES < length bytes → e ≡ errors.Limit (record { which = kind.File; reached = MOST_SOURCE_BYTES + 1 }) → Refused bytes e
  uncut : length bytes ≤ MOST_SOURCE_BYTES → refusal_in bytes ≡ Some e → Refused bytes e
  unwritten : length bytes ≤ MOST_SOURCE_BYTES → refusal_in bytes ≡ None → RefusedAs (tokens_in bytes) e → Refused bytes e
  faulty : (design : DesignFile) → IsWritten bytes design → IsRefusedFor design e → Refused bytes e

-- the refusal, or memory has run out
abbrev pub IsVbeRefusal : List ℕ → ReadError → Type 0
IsVbeRefusal bytes errors.Memory = Unit {0}
IsVbeRefusal bytes (errors.Input f) = Refused bytes (errors.Input f)
IsVbeRefusal bytes (errors.Limit l) = Refused bytes (errors.Limit l)
