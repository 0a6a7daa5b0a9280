-- What the lines behind the first one say, and why they say nothing.
use Rattle.std.specs.Prelude.{◌≡◌, ℕ, ◌+◌, List, ◌∷◌, ◌++◌, length, All}
use Rattle.vlsi_base.specs.declared.fault.FaultKind.TheVariants as kind
use Rattle.vlsi_base.specs.declared.fault.ReadError.{ReadError}
use Rattle.vlsi_base.specs.declared.fault.ReadError.TheVariants as errors
use Rattle.real_table.specs.declared.table.Entry.{Entry}
use Rattle.real_table.specs.Bounds.{IsEntryWithin}
use Rattle.real_table.specs.Lines.{IsNoEntry}
use Rattle.real_table.specs.Process.{AreEntries, fault_on}

pub record AreRead (lines : List (List ℕ)) (entries : List Entry) : Type 0 where
  pub are : AreEntries lines entries
  pub within : All IsEntryWithin entries

-- the first of these lines that says nothing is bad; they stand behind one line
pub record IsFirstBad (lines : List (List ℕ)) (e : ReadError) : Type 0 where
  pub before : List (List ℕ)
  pub line : List ℕ
  pub rest : List (List ℕ)
  pub entries : List Entry
  pub lines_are : lines ≡ before ++ line ∷ rest
  pub read : AreEntries before entries
  pub bad : IsNoEntry line
  pub fault : e ≡ fault_on (length before + 2) kind.BadLine

-- or memory has run out
abbrev pub IsLinesRefusal : List (List ℕ) → ReadError → Type 0
IsLinesRefusal lines errors.Memory = Unit {0}
IsLinesRefusal lines e = IsFirstBad lines e
