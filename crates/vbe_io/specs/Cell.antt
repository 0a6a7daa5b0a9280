-- What a cell's text says: its pins, its generics, and its machine, where it has one.
use Rattle.std.specs.Prelude.{◌≡◌, ◌≤◌, ◌<◌, ℕ, Bool, true, false, List, [], ◌∷◌, ◌++◌, map, length, Option, None, Some, IsPermutation, if◌then◌else◌}
use Rattle.vlsi_base.specs.declared.name.Name.{Name}
use Rattle.vlsi_base.specs.declared.name.Port.{Port}
use Rattle.vlsi_base.specs.declared.name.Dir.{Dir}
use Rattle.vlsi_base.specs.declared.name.Dir.TheVariants as dir
use Rattle.vlsi_base.specs.declared.entity.Generic.{Generic}
use Rattle.vlsi_base.specs.declared.entity.NewName.{NewName}
use Rattle.vlsi_base.specs.declared.fault.FaultKind.{FaultKind}
use Rattle.vlsi_base.specs.declared.fault.FaultKind.TheVariants as kind
use Rattle.vlsi_base.specs.declared.fault.LimitKind.TheVariants as limit
use Rattle.vlsi_base.specs.declared.fault.ReadError.{ReadError}
use Rattle.vlsi_base.specs.declared.fault.ReadError.TheVariants as errors
use Rattle.vlsi_base.specs.Name.{is_supply}
use Rattle.machine_core.specs.Machine.{Machine, names_of}
use Rattle.machine_core.specs.Checked.{AreInOrder}
use Rattle.source_checks.specs.declared.statement.DesignFile.{DesignFile}
use Rattle.source_checks.specs.declared.symbol_table.Role.{Role}
use Rattle.source_checks.specs.declared.symbol_table.Role.TheVariants as role
use Rattle.source_checks.specs.declared.symbol_table.Symbol.{Symbol}
use Rattle.source_checks.specs.Symbols.{symbols, symbol_names}
use Rattle.source_checks.specs.Checks.{most_ports, first_fault, Passes, IsRefusedFor}
use Rattle.source_checks.specs.Elaboration.{port_of, IsMachineOf}
use Rattle.vbe_io.specs.Text.{IsWritten, Refused}
use Rattle.vbe_io.specs.declared.cell_text.GenericValue.{GenericValue}
use Rattle.vbe_io.specs.declared.cell_text.CellText.{CellText}

-- the direction of a port's bits: those of mode inout count as outputs
abbrev pub pin_dir : Role → Option Dir
pin_dir role.Input = Some dir.In
pin_dir role.Output = Some dir.Out
pin_dir role.Both = Some dir.Out
pin_dir role.Inner = None
pin_dir role.Register = None

abbrev pub pins_towards : Option Dir → List Name → List Port
pins_towards None names = []
pins_towards (Some d) names = map (port_of d) names

abbrev pub symbol_pins : Symbol → List Port
symbol_pins s = if is_supply s.text then [] else pins_towards (pin_dir s.role) (symbol_names s)

-- the bits of the ports but vdd and vss, in file order, those of mode inout among them
abbrev pub pin_bits : List Symbol → List Port
pin_bits [] = []
pin_bits (s ∷ rest) = symbol_pins s ++ pin_bits rest

-- each generic by itself, with the number behind `:=`, in file order
abbrev pub with_value : Option ℕ → NewName → GenericValue
with_value value n = record { name = n.text; value = value }

abbrev pub values_of : Generic → List GenericValue
values_of g = map (with_value g.value) g.names

abbrev pub generic_values : List Generic → List GenericValue
generic_values [] = []
generic_values (g ∷ rest) = values_of g ++ generic_values rest

-- a form that is left out, or a clock that is none: a cell that has it is a cell without a behaviour
abbrev pub leaves_out : FaultKind → Bool
leaves_out kind.Unsupported = true
leaves_out kind.ClockUse = true
leaves_out _ = false

abbrev pub is_left_out : ReadError → Bool
is_left_out errors.Memory = false
is_left_out (errors.Input f) = leaves_out f.kind
is_left_out (errors.Limit l) = false

-- the first check that fails is that for such a form or for the clock
abbrev pub IsOpaque : DesignFile → Type 0
IsOpaque design = (e : ReadError) × (first_fault design ≡ Some e) × (is_left_out e ≡ true)

-- the machine of what is written; none where it has such a form
abbrev pub IsBehaviour : DesignFile → Option Machine → Type 0
IsBehaviour design (Some m) = Passes design × IsMachineOf design m
IsBehaviour design None = IsOpaque design

-- The pins of a cell with these port bits: the ports of its machine, or where it has none the port bits in the order of names,
-- at most 4096 of them.
abbrev pub ArePins : List Port → Option Machine → List Port → Type 0
ArePins bits (Some m) pins = pins ≡ m.ports
ArePins bits None pins = IsPermutation bits pins × AreInOrder (names_of pins) × (length pins ≤ most_ports)

-- The bytes are the data-flow text of a cell, and this is what it says.
pub record IsCellText (bytes : List ℕ) (cell : CellText) : Type 0 where
  pub design : DesignFile
  pub written : IsWritten bytes design
  pub name : cell.name ≡ design.entity.name
  pub generics : cell.generics ≡ generic_values design.entity.generics
  pub behaviour : IsBehaviour design cell.machine
  pub pins : ArePins (pin_bits (symbols design)) cell.machine cell.ports

-- so many port bits are too many
abbrev pub pins_error : List Port → ReadError
pins_error bits = errors.Limit (record { which = limit.Ports; reached = length bits })

abbrev pub IsTooWide : List Port → ReadError → Type 0
IsTooWide bits e = (most_ports < length bits) × (e ≡ pins_error bits)

-- Why what is written is no cell: it is no machine, for another reason than a form that is left out and the clock; or it has no
-- behaviour, and too many port bits.
pub data Unfit (design : DesignFile) (e : ReadError) : Type 0 where
  at_fault : IsRefusedFor design e → is_left_out e ≡ false → Unfit design e
  too_wide : IsOpaque design → IsTooWide (pin_bits (symbols design)) e → Unfit design e

-- Why bytes are no cell.
pub data CellRefused (bytes : List ℕ) (e : ReadError) : Type 0 where
  other : Refused bytes e → is_left_out e ≡ false → CellRefused bytes e
  wide : (design : DesignFile) → IsWritten bytes design → IsOpaque design → IsTooWide (pin_bits (symbols design)) e → CellRefused bytes e

-- the refusal, or memory has run out
abbrev pub IsCellRefusal : List ℕ → ReadError → Type 0
IsCellRefusal bytes errors.Memory = Unit {0}
IsCellRefusal bytes (errors.Input f) = CellRefused bytes (errors.Input f)
IsCellRefusal bytes (errors.Limit l) = CellRefused bytes (errors.Limit l)

abbrev pub IsUnfit : DesignFile → ReadError → Type 0
IsUnfit design errors.Memory = Unit {0}
IsUnfit design (errors.Input f) = Unfit design (errors.Input f)
IsUnfit design (errors.Limit l) = Unfit design (errors.Limit l)

-- too many port bits of a cell without a machine, or memory has run out
abbrev pub IsPinsRefusal : List Port → Option Machine → ReadError → Type 0
IsPinsRefusal bits machine errors.Memory = Unit {0}
IsPinsRefusal bits machine (errors.Input f) = ⊥
IsPinsRefusal bits machine (errors.Limit l) = (machine ≡ None) × IsTooWide bits (errors.Limit l)
