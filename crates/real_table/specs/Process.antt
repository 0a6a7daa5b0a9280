-- The text of a table of a process: its first line, and then lines that each say something.
use Rattle.std.specs.Prelude.{◌≡◌, ℕ, ◌+◌, ◌<◌, ◌≤◌, IsTrue, Bool, nat_eq, List, [], ◌∷◌, ◌++◌, length, codes}
use Rattle.std.specs.List.{starts_with}
use Rattle.vlsi_base.specs.Lines.{lines_of}
use Rattle.vlsi_base.specs.declared.limits.TheConstants.{MOST_SOURCE_BYTES}
use Rattle.vlsi_base.specs.declared.fault.LimitKind.TheVariants as limits
use Rattle.vlsi_base.specs.declared.fault.FaultKind.{FaultKind}
use Rattle.vlsi_base.specs.declared.fault.FaultKind.TheVariants as kind
use Rattle.vlsi_base.specs.declared.fault.ReadError.{ReadError}
use Rattle.vlsi_base.specs.declared.fault.ReadError.TheVariants as errors
use Rattle.real_table.specs.declared.table.TheConstants.{MOST_UNIT}
use Rattle.real_table.specs.declared.table.Head.{Head}
use Rattle.real_table.specs.declared.table.Entry.{Entry}
use Rattle.real_table.specs.declared.table.ProcessTable.{ProcessTable}
use Rattle.real_table.specs.Fields.{fields_of, at, IsNumberIn}
use Rattle.real_table.specs.Words.{is_name}
use Rattle.real_table.specs.Lines.{word_at, IsEntry, IsNoEntry}

-- a table of a process begins so; any other is a plain one
abbrev pub is_process : List ℕ → Bool
is_process bytes = starts_with nat_eq bytes (codes "process ")

-- the words of the first line
pub record HasHeadWords (line : List ℕ) : Type 0 where
  pub count : length (fields_of line) ≡ 8
  pub process : word_at line 0 ≡ codes "process"
  pub name : IsTrue (is_name (word_at line 1))
  pub unit : word_at line 2 ≡ codes "unit"
  pub scale : word_at line 4 ≡ codes "scale"
  pub grid : word_at line 6 ≡ codes "grid"

-- `process NAME unit D scale K grid G`
pub record IsHead (line : List ℕ) (h : Head) : Type 0 where
  pub words : HasHeadWords line
  pub unit : IsNumberIn 1 MOST_UNIT (word_at line 3) h.unit
  pub scale : IsNumberIn 1 MOST_UNIT (word_at line 5) h.scale
  pub grid : IsNumberIn 1 MOST_UNIT (word_at line 7) h.grid

abbrev pub IsNoHead : List ℕ → Type 0
IsNoHead line = (h : Head) → IsHead line h → ⊥

-- what lines say, one behind the other
pub data AreEntries : List (List ℕ) → List Entry → Type 0 where
  none : AreEntries [] []
  more : {line : List ℕ} {lines : List (List ℕ)} {e : Entry} {entries : List Entry} → IsEntry line e → AreEntries lines entries
      → AreEntries (line ∷ lines) (e ∷ entries)

-- the lines are those of this table
pub record IsProcessTextOf (lines : List (List ℕ)) (t : ProcessTable) : Type 0 where
  pub first : List ℕ
  pub rest : List (List ℕ)
  pub lines_are : lines ≡ first ∷ rest
  pub head : IsHead first t.head
  pub entries : AreEntries rest t.entries

-- the bytes are the text of this table
abbrev pub IsProcessText : List ℕ → ProcessTable → Type 0
IsProcessText bytes t = (length bytes ≤ MOST_SOURCE_BYTES) × IsProcessTextOf (lines_of bytes) t

-- ---- why bytes are no such table

-- a fault on a line, without names
abbrev pub fault_on : ℕ → FaultKind → ReadError
fault_on line which = errors.Input (record { line = line; kind = which; names = [] })

-- The first line that isn't as it should be is bad; where there is none at all, the end comes on line 1.
pub data IsFault (lines : List (List ℕ)) (e : ReadError) : Type 0 where
  no_line : lines ≡ [] → e ≡ fault_on 1 kind.NoEnd → IsFault lines e
  bad_head : (first : List ℕ) (rest : List (List ℕ)) → lines ≡ first ∷ rest → IsNoHead first → e ≡ fault_on 1 kind.BadLine → IsFault lines e
  bad_line : (first line : List ℕ) (before rest : List (List ℕ)) (h : Head) (entries : List Entry) → lines ≡ first ∷ (before ++ line ∷ rest)
      → IsHead first h → AreEntries before entries → IsNoEntry line → e ≡ fault_on (length before + 2) kind.BadLine → IsFault lines e

-- or memory has run out
abbrev pub IsProcessRefusalOf : List (List ℕ) → ReadError → Type 0
IsProcessRefusalOf lines errors.Memory = Unit {0}
IsProcessRefusalOf lines e = IsFault lines e

abbrev pub too_long : ReadError
too_long = errors.Limit (record { which = limits.File; reached = MOST_SOURCE_BYTES + 1 })

-- Why bytes are no such table: they are too many, or a line is bad.
pub data Refused (bytes : List ℕ) (e : ReadError) : Type 0 where
  long_file : MOST_SOURCE_BYTES < length bytes → e ≡ too_long → Refused bytes e
  at_line : length bytes ≤ MOST_SOURCE_BYTES → IsFault (lines_of bytes) e → Refused bytes e

abbrev pub IsProcessRefusal : List ℕ → ReadError → Type 0
IsProcessRefusal bytes errors.Memory = Unit {0}
IsProcessRefusal bytes e = Refused bytes e
