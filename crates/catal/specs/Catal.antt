-- Which cells a CATAL uses, and why a text is none.
use Rattle.std.specs.Prelude.{◌≡◌, ◌≤◌, ◌<◌, ℕ, ◌+◌, List, [], ◌∷◌, ◌++◌, length, codes}
use Rattle.vlsi_base.specs.Member.{In, AllDifferent}
use Rattle.vlsi_base.specs.declared.limits.TheConstants.{MOST_SOURCE_BYTES}
use Rattle.vlsi_base.specs.declared.fault.LimitKind.{LimitKind}
use Rattle.vlsi_base.specs.declared.fault.LimitKind.TheVariants as kind
use Rattle.lexer_base.specs.declared.piece.TheConstants.{MOST_IDENTIFIER_BYTES}
use Rattle.vlsi_base.specs.Lines.{lines_of}
use Rattle.catal.specs.declared.reader.TheConstants.{MOST_CELLS}
use Rattle.catal.specs.declared.error.CatalError.{CatalError}
use Rattle.catal.specs.declared.error.CatalError.TheVariants as errors
use Rattle.catal.specs.Line.{lower, IsEntry}

-- the names that a line gives: that of a cell with the word C, in lower case; none, where it is empty or has another word
pub data Gives (line : List ℕ) : List (List ℕ) → Type 0 where
  empty : line ≡ [] → Gives line []
  used : (name : List ℕ) → IsEntry line name (codes "C") → length name ≤ MOST_IDENTIFIER_BYTES → Gives line (lower name ∷ [])
  unused : (name word : List ℕ) → IsEntry line name word → (word ≡ codes "C" → ⊥) → length name ≤ MOST_IDENTIFIER_BYTES → Gives line []

-- the names that lines give, in their order
pub data Lists : List (List ℕ) → List (List ℕ) → Type 0 where
  none : Lists [] []
  more : {line : List ℕ} {lines given names : List (List ℕ)} → Gives line given → Lists lines names → Lists (line ∷ lines) (given ++ names)

-- the cells that these lines use, none of them twice
pub record AreUsed (lines names : List (List ℕ)) : Type 0 where
  pub lists : Lists lines names
  pub different : AllDifferent names

-- The bytes are a CATAL, and these are its cells with the word C, in the order of the file and in lower case.
pub record IsCatal (bytes : List ℕ) (names : List (List ℕ)) : Type 0 where
  pub short : length bytes ≤ MOST_SOURCE_BYTES
  pub used : AreUsed (lines_of bytes) names
  pub few : length names ≤ MOST_CELLS

-- Where lines before it use these cells, a line is bad: it has bytes and gives no word to a cell, or it uses one of them again.
pub data IsBad (names : List (List ℕ)) (line : List ℕ) : Type 0 where
  formless : (line ≡ [] → ⊥) → ((name word : List ℕ) → IsEntry line name word → ⊥) → IsBad names line
  again : (name : List ℕ) → IsEntry line name (codes "C") → In (lower name) names → IsBad names line

abbrev pub limit_error : LimitKind → ℕ → CatalError
limit_error which reached = errors.Limit (record { which = which; reached = reached })

-- Why a line is refused that has this number, where lines before it use these cells: it is bad, or its cell's name is too long.
pub data IsLineRefusal (names : List (List ℕ)) (number : ℕ) (line : List ℕ) (e : CatalError) : Type 0 where
  bad : IsBad names line → e ≡ errors.BadLine number → IsLineRefusal names number line e
  ident : (name word : List ℕ) → IsEntry line name word → MOST_IDENTIFIER_BYTES < length name → e ≡ limit_error kind.Ident (length name)
      → IsLineRefusal names number line e

-- the first line at fault is refused so
pub record IsFirstFault (lines : List (List ℕ)) (e : CatalError) : Type 0 where
  pub before : List (List ℕ)
  pub behind : List (List ℕ)
  pub names : List (List ℕ)
  pub line : List ℕ
  pub lines_are : lines ≡ before ++ line ∷ behind
  pub used : AreUsed before names
  pub refused : IsLineRefusal names (length before + 1) line e

-- Why bytes are no CATAL, in this order: there are too many, a line is at fault, or there are too many cells.
pub data Refused (bytes : List ℕ) (e : CatalError) : Type 0 where
  too_long : MOST_SOURCE_BYTES < length bytes → e ≡ limit_error kind.File (MOST_SOURCE_BYTES + 1) → Refused bytes e
  at_line : length bytes ≤ MOST_SOURCE_BYTES → IsFirstFault (lines_of bytes) e → Refused bytes e
  too_many : (names : List (List ℕ)) → length bytes ≤ MOST_SOURCE_BYTES → AreUsed (lines_of bytes) names → MOST_CELLS < length names
      → e ≡ limit_error kind.Cells (length names) → Refused bytes e

-- the refusal, or memory has run out
abbrev pub IsCatalRefusal : List ℕ → CatalError → Type 0
IsCatalRefusal bytes errors.Memory = Unit {0}
IsCatalRefusal bytes e = Refused bytes e
