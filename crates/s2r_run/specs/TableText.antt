-- The text of a table: the line `scale K` and the line `grow D1 D2 D3 D4 D5 D6`, and nothing else.
use Rattle.std.specs.Prelude.{◌≡◌, ℕ, ◌+◌, ◌<◌, List, [], ◌∷◌, length, slice_index, codes}
use Rattle.vlsi_base.specs.Lines.{lines_of}
use Rattle.vlsi_base.specs.declared.fault.FaultKind.{FaultKind}
use Rattle.vlsi_base.specs.declared.fault.FaultKind.TheVariants as kind
use Rattle.vlsi_base.specs.declared.fault.ReadError.{ReadError}
use Rattle.vlsi_base.specs.declared.fault.ReadError.TheVariants as errors
use Rattle.real_table.specs.Fields.{fields_of, at, IsNumberIn}
use Rattle.s2r_cif.specs.declared.table.TheConstants.{MOST_SCALE, MOST_GROW}
use Rattle.s2r_cif.specs.declared.table.RealTable.{RealTable}

-- ---- lines

-- the line `scale K`
pub record IsScaleLine (line : List ℕ) (scale : ℕ) : Type 0 where
  pub count : length (fields_of line) ≡ 2
  pub word : at (fields_of line) 0 ≡ codes "scale"
  pub number : IsNumberIn 1 MOST_SCALE (at (fields_of line) 1) scale

-- the line `grow D1 D2 D3 D4 D5 D6`
pub record IsGrowLine (line grow : List ℕ) : Type 0 where
  pub count : length (fields_of line) ≡ 7
  pub word : at (fields_of line) 0 ≡ codes "grow"
  pub numbers : (k : ℕ) → k < 6 → IsNumberIn 0 MOST_GROW (at (fields_of line) (k + 1)) (slice_index grow k)

-- the bytes are the text of this table
pub record IsTableText (bytes : List ℕ) (t : RealTable) : Type 0 where
  pub first : List ℕ
  pub second : List ℕ
  pub lines : lines_of bytes ≡ first ∷ second ∷ []
  pub scale : IsScaleLine first t.scale
  pub grow : IsGrowLine second t.grow

-- ---- why bytes are no table

abbrev pub IsNoScale : List ℕ → Type 0
IsNoScale line = (scale : ℕ) → IsScaleLine line scale → ⊥

abbrev pub IsNoGrow : List ℕ → Type 0
IsNoGrow line = (grow : List ℕ) → IsGrowLine line grow → ⊥

-- a fault on a line, without names
abbrev pub fault_on : ℕ → FaultKind → ReadError
fault_on line which = errors.Input (record { line = line; kind = which; names = [] })

-- The first line that isn't as it should be is bad; where a line is missing, the end comes on the last one.
pub data IsTableRefusal (bytes : List ℕ) (e : ReadError) : Type 0 where
  no_line : lines_of bytes ≡ [] → e ≡ fault_on 1 kind.NoEnd → IsTableRefusal bytes e
  bad_scale : (first : List ℕ) (rest : List (List ℕ)) → lines_of bytes ≡ first ∷ rest → IsNoScale first → e ≡ fault_on 1 kind.BadLine → IsTableRefusal bytes e
  no_grow : (first : List ℕ) (scale : ℕ) → lines_of bytes ≡ first ∷ [] → IsScaleLine first scale → e ≡ fault_on 1 kind.NoEnd → IsTableRefusal bytes e
  bad_grow : (first second : List ℕ) (rest : List (List ℕ)) (scale : ℕ) → lines_of bytes ≡ first ∷ second ∷ rest → IsScaleLine first scale → IsNoGrow second
      → e ≡ fault_on 2 kind.BadLine → IsTableRefusal bytes e
  more : (first second third : List ℕ) (rest : List (List ℕ)) (scale : ℕ) (grow : List ℕ) → lines_of bytes ≡ first ∷ second ∷ third ∷ rest
      → IsScaleLine first scale → IsGrowLine second grow → e ≡ fault_on 3 kind.BadLine → IsTableRefusal bytes e
