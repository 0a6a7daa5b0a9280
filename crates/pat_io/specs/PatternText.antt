-- Which bytes are a pattern file for some ports, with which patterns, and why others aren't.
use Rattle.std.specs.Prelude.{◌≡◌, ℕ, ◌+◌, ◌<◌, ◌≤◌, List, [], ◌∷◌, length, Option, None, Some}
use Rattle.vlsi_base.specs.declared.limits.TheConstants.{MOST_SOURCE_BYTES}
use Rattle.vlsi_base.specs.declared.name.Port.{Port}
use Rattle.vlsi_base.specs.declared.fault.InputFault.{InputFault}
use Rattle.vlsi_base.specs.declared.fault.FaultKind.{FaultKind}
use Rattle.vlsi_base.specs.declared.fault.FaultKind.TheVariants as kind
use Rattle.vlsi_base.specs.declared.fault.LimitKind.TheVariants.{File}
use Rattle.vlsi_base.specs.declared.fault.ReadError.{ReadError}
use Rattle.vlsi_base.specs.declared.fault.ReadError.TheVariants as error
use Rattle.pat_meaning.specs.declared.patterns.Patterns.{Patterns}
use Rattle.pat_lexer.specs.Listing.{tokens_in, refusal_in}
use Rattle.pat_text.specs.declared.parsed.PatternFile.{PatternFile}
use Rattle.pat_text.specs.Answers.{IsFile, IsSyntaxFault}
use Rattle.pat_io.specs.Known.{unknown_faults}
use Rattle.pat_io.specs.Digits.{patterns_for}
use Rattle.pat_io.specs.Fitting.{width_faults, time_faults}

-- ---- the first place at fault

abbrev pub first_fault : List InputFault → Option InputFault
first_fault [] = None
first_fault (f ∷ _) = Some f

abbrev pub first_line : List ℕ → Option ℕ
first_line [] = None
first_line (line ∷ _) = Some line

abbrev pub unknown_error : Option InputFault → Option ReadError
unknown_error None = None
unknown_error (Some f) = Some (error.Input f)

abbrev pub line_error : FaultKind → Option ℕ → Option ReadError
line_error k None = None
line_error k (Some line) = Some (error.Input (record { line = line; kind = k; names = [] }))

abbrev pub or_else : Option ReadError → Option ReadError → Option ReadError
or_else None o = o
or_else (Some e) o = Some e

-- names first, then widths, then times
unfoldable pub fault_in : List Port → PatternFile → Option ReadError
fault_in ports parsed =
    or_else (unknown_error (first_fault (unknown_faults ports parsed.columns)))
    (or_else (line_error kind.Width (first_line (width_faults ports parsed))) (line_error kind.TimeBack (first_line (time_faults 0 parsed.patterns))))

-- this error, or memory has run out
abbrev pub OrMemory : Option ReadError → ReadError → Type 0
OrMemory o error.Memory = Unit {0}
OrMemory o (error.Input f) = o ≡ Some (error.Input f)
OrMemory o (error.Limit l) = o ≡ Some (error.Limit l)

-- ---- texts

-- what is written, where the bytes are few enough and are cut into tokens
pub record IsWritten (bytes : List ℕ) (parsed : PatternFile) : Type 0 where
  pub few : length bytes ≤ MOST_SOURCE_BYTES
  pub cut : refusal_in bytes ≡ None
  pub file : IsFile (tokens_in bytes).items parsed

-- The bytes are a pattern file without a fault for these ports, and the patterns are those that are written.
pub record IsPatternText (bytes : List ℕ) (ports : List Port) (p : Patterns) : Type 0 where
  pub parsed : PatternFile
  pub written : IsWritten bytes parsed
  pub faultless : fault_in ports parsed ≡ None
  pub is : p ≡ patterns_for parsed

-- Why bytes are no pattern file for these ports: there are too many, they aren't cut into tokens, the tokens are no
-- pattern file, or what is written is at fault.
pub data Refused (bytes : List ℕ) (ports : List Port) (e : ReadError) : Type 0 where
  long : MOST_SOURCE_BYTES < length bytes → e ≡ error.Limit (record { which = File; reached = MOST_SOURCE_BYTES + 1 }) → Refused bytes ports e
  uncut : length bytes ≤ MOST_SOURCE_BYTES → refusal_in bytes ≡ Some e → Refused bytes ports e
  unwritten : length bytes ≤ MOST_SOURCE_BYTES → refusal_in bytes ≡ None → IsSyntaxFault (tokens_in bytes) e → Refused bytes ports e
  faulty : (parsed : PatternFile) → IsWritten bytes parsed → fault_in ports parsed ≡ Some e → Refused bytes ports e

-- the refusal, or memory has run out
abbrev pub IsPatternRefusal : List ℕ → List Port → ReadError → Type 0
IsPatternRefusal bytes ports error.Memory = Unit {0}
IsPatternRefusal bytes ports (error.Input f) = Refused bytes ports (error.Input f)
IsPatternRefusal bytes ports (error.Limit l) = Refused bytes ports (error.Limit l)
