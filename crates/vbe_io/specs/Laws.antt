-- What follows from the definitions of a text and of its refusals.
use Rattle.std.specs.Prelude.{◌≡◌, ◌⊎◌, ℕ, List, Some}
use Rattle.vlsi_base.specs.declared.name.Name.{Name}
use Rattle.vlsi_base.specs.declared.fault.FaultKind.TheVariants as kind
use Rattle.vlsi_base.specs.declared.fault.ReadError.{ReadError}
use Rattle.machine_core.specs.Machine.{Machine}
use Rattle.source_checks.specs.Checks.{fault}
use Rattle.vbe_io.specs.Text.{IsVbe, Refused}
use Rattle.vbe_io.specs.Cell.{IsCellText, CellRefused}
use Rattle.vbe_io.specs.declared.cell_text.CellText.{CellText}

-- a refusal that names a ring of signals
abbrev pub IsRingFault : ReadError → Type 0
IsRingFault e = (line : ℕ) × (names : List Name) × (e ≡ fault kind.Cycle line names)

-- A text that is a machine has no refusal.
abbrev pub NeverBoth : Type 0
NeverBoth = (bytes : List ℕ) (m : Machine) (e : ReadError) → IsVbe bytes m → Refused bytes e → ⊥

-- A text has at most one refusal; only of several rings any may be named.
abbrev pub OneRefusal : Type 0
OneRefusal = (bytes : List ℕ) (d e : ReadError) → Refused bytes d → Refused bytes e → (d ≡ e) ⊎ (IsRingFault d × IsRingFault e)

-- With a machine, the text of a cell is the text of that machine.
abbrev pub CellIsMachine : Type 0
CellIsMachine = (bytes : List ℕ) (cell : CellText) (m : Machine) → IsCellText bytes cell → cell.machine ≡ Some m → IsVbe bytes m

-- A text that is a cell has no refusal as one.
abbrev pub CellNeverBoth : Type 0
CellNeverBoth = (bytes : List ℕ) (cell : CellText) (e : ReadError) → IsCellText bytes cell → CellRefused bytes e → ⊥
