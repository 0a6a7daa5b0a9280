-- Each source, and each text, has an answer. That none is both a machine and refused, and how far its machines and its refusals are one,
-- is said where texts are defined.
use Rattle.std.specs.Prelude.{◌⊎◌, ℕ, List}
use Rattle.vlsi_base.specs.declared.fault.ReadError.{ReadError}
use Rattle.machine_core.specs.Machine.{Machine}
use Rattle.source_checks.specs.declared.statement.DesignFile.{DesignFile}
use Rattle.source_checks.specs.Checks.{Passes, IsRefusedFor}
use Rattle.source_checks.specs.Elaboration.{IsMachineOf}
use Rattle.vbe_io.specs.Text.{IsVbe, Refused}
use Rattle.vbe_io.specs.Cell.{IsCellText, CellRefused}
use Rattle.vbe_io.specs.declared.cell_text.CellText.{CellText}

-- A source passes its checks and has a machine, or there is a reason why it is none.
abbrev pub EachDesign : Type 0
EachDesign = (design : DesignFile) → (Passes design × ((m : Machine) × IsMachineOf design m)) ⊎ ((e : ReadError) × IsRefusedFor design e)

-- Bytes are a text that is a machine, or they have a refusal.
abbrev pub EachText : Type 0
EachText = (bytes : List ℕ) → ((m : Machine) × IsVbe bytes m) ⊎ ((e : ReadError) × Refused bytes e)

-- Bytes are the text of a cell, or they have a refusal as one.
abbrev pub EachCell : Type 0
EachCell = (bytes : List ℕ) → ((cell : CellText) × IsCellText bytes cell) ⊎ ((e : ReadError) × CellRefused bytes e)
