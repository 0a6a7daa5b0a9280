-- The text of a path: one identifier on each line, or none on a blank one.
use Rattle.std.specs.Prelude.{◌≡◌, ◌<◌, ◌≤◌, ℕ, ◌+◌, Bool, true, false, ◌&&◌, List, [], ◌∷◌, ◌++◌, map, max, length, slice_index}
use Rattle.std.specs.List.{list_all}
use Rattle.std.specs.Char.{is_ascii_alphabetic, to_ascii_lowercase}
use Rattle.vlsi_base.specs.declared.limits.TheConstants.{MOST_SOURCE_BYTES}
use Rattle.vlsi_base.specs.declared.fault.FaultKind.{FaultKind}
use Rattle.vlsi_base.specs.declared.fault.FaultKind.TheVariants as kind
use Rattle.vlsi_base.specs.declared.fault.LimitKind.{LimitKind}
use Rattle.vlsi_base.specs.declared.fault.LimitKind.TheVariants as limit
use Rattle.vlsi_base.specs.declared.fault.ReadError.{ReadError}
use Rattle.vlsi_base.specs.declared.fault.ReadError.TheVariants as errors
use Rattle.vlsi_base.specs.Lines.{lines_of, without_return}
use Rattle.lexer_base.specs.declared.piece.TheConstants.{MOST_IDENTIFIER_BYTES}
use Rattle.lexer_base.specs.Bytes.{is_blank, is_in_word}
use Rattle.path_io.specs.declared.reader.PathFile.{PathFile}

-- ---- lines

-- spaces and tabs alone
abbrev pub is_blank_line : List ℕ → Bool
is_blank_line text = list_all is_blank text

-- a letter, then letters, digits and underscores
abbrev pub is_identifier : List ℕ → Bool
is_identifier text = is_ascii_alphabetic (slice_index text 0) && list_all is_in_word text

-- the line is this name, written in any case; a carriage return at its end is no part of it
pub record IsNamed (line name : List ℕ) : Type 0 where
  pub filled : is_blank_line (without_return line) ≡ false
  pub identifier : is_identifier (without_return line) ≡ true
  pub short : length (without_return line) ≤ MOST_IDENTIFIER_BYTES
  pub lower : name ≡ map to_ascii_lowercase (without_return line)

-- lines that are numbered from k on, the names on them, and the line of each name
pub data Lists : ℕ → List (List ℕ) → List (List ℕ) → List ℕ → Type 0 where
  ended : {k : ℕ} → Lists k [] [] []
  blank : {k : ℕ} {line : List ℕ} {lines names : List (List ℕ)} {numbers : List ℕ}
      → is_blank_line (without_return line) ≡ true → Lists (k + 1) lines names numbers → Lists k (line ∷ lines) names numbers
  named : {k : ℕ} {line name : List ℕ} {lines names : List (List ℕ)} {numbers : List ℕ}
      → IsNamed line name → Lists (k + 1) lines names numbers → Lists k (line ∷ lines) (name ∷ names) (k ∷ numbers)

-- the bytes are the text of this path
pub record IsPathText (bytes : List ℕ) (f : PathFile) : Type 0 where
  pub short : length bytes ≤ MOST_SOURCE_BYTES
  pub lists : Lists 1 (lines_of bytes) f.names.items f.lines.items
  pub last : f.last ≡ max (length (lines_of bytes)) 1

-- ---- why bytes are no path

-- a fault on a line, without names
abbrev pub fault_on : ℕ → FaultKind → ReadError
fault_on line which = errors.Input (record { line = line; kind = which; names = [] })

abbrev pub limit_of : LimitKind → ℕ → ReadError
limit_of which reached = errors.Limit (record { which = which; reached = reached })

-- a line is neither blank nor an identifier, or the identifier is too long
pub data IsLineRefusal (number : ℕ) (line : List ℕ) (e : ReadError) : Type 0 where
  formless : is_blank_line (without_return line) ≡ false → is_identifier (without_return line) ≡ false → e ≡ fault_on number kind.Syntax
      → IsLineRefusal number line e
  long : is_blank_line (without_return line) ≡ false → is_identifier (without_return line) ≡ true → MOST_IDENTIFIER_BYTES < length (without_return line)
      → e ≡ limit_of limit.Ident (length (without_return line)) → IsLineRefusal number line e

-- the first line at fault is refused so
pub record IsFirstFault (lines : List (List ℕ)) (e : ReadError) : Type 0 where
  pub before : List (List ℕ)
  pub line : List ℕ
  pub behind : List (List ℕ)
  pub lines_are : lines ≡ before ++ line ∷ behind
  pub names : List (List ℕ)
  pub numbers : List ℕ
  pub fine : Lists 1 before names numbers
  pub refused : IsLineRefusal (length before + 1) line e

-- there are too many bytes, or a line is at fault
pub data Refused (bytes : List ℕ) (e : ReadError) : Type 0 where
  too_long : MOST_SOURCE_BYTES < length bytes → e ≡ limit_of limit.File (MOST_SOURCE_BYTES + 1) → Refused bytes e
  at_line : length bytes ≤ MOST_SOURCE_BYTES → IsFirstFault (lines_of bytes) e → Refused bytes e

-- the refusal, or memory has run out
abbrev pub IsPathTextRefusal : List ℕ → ReadError → Type 0
IsPathTextRefusal bytes errors.Memory = Unit {0}
IsPathTextRefusal bytes (errors.Input f) = Refused bytes (errors.Input f)
IsPathTextRefusal bytes (errors.Limit l) = Refused bytes (errors.Limit l)

-- ---- parts of it

abbrev pub IsRefusedLine : ℕ → List ℕ → ReadError → Type 0
IsRefusedLine number line errors.Memory = Unit {0}
IsRefusedLine number line (errors.Input f) = IsLineRefusal number line (errors.Input f)
IsRefusedLine number line (errors.Limit l) = IsLineRefusal number line (errors.Limit l)

-- a name of the last line was put behind the others
pub record PushesName (old : PathFile) (name : List ℕ) (new : PathFile) : Type 0 where
  pub names : new.names.items ≡ old.names.items ++ name ∷ []
  pub lines : new.lines.items ≡ old.lines.items ++ old.last ∷ []
  pub last : new.last ≡ old.last
