-- What a data-flow text comes to: the first check that fails, in their order, or the machine that it is.
use Rattle.std.specs.Prelude.{◌≡◌, ◌≤◌, ◌<◌, ◌⊎◌, ℕ, bytes_eq, List, [], ◌∷◌, length, Option, None, Some, if◌then◌else◌}
use Rattle.std.specs.List.{list_any}
use Rattle.vlsi_base.specs.declared.name.Name.{Name}
use Rattle.vlsi_base.specs.declared.fault.FaultKind.{FaultKind}
use Rattle.vlsi_base.specs.declared.fault.FaultKind.TheVariants as kind
use Rattle.vlsi_base.specs.declared.fault.LimitKind.TheVariants as limit
use Rattle.vlsi_base.specs.declared.fault.ReadError.{ReadError}
use Rattle.vlsi_base.specs.declared.fault.ReadError.TheVariants as error
use Rattle.machine_core.specs.Order.{In}
use Rattle.source_checks.specs.declared.statement.DesignFile.{DesignFile}
use Rattle.source_checks.specs.Symbols.{symbols, scalar}
use Rattle.source_checks.specs.declared.symbol_table.Symbol.{Symbol}
use Rattle.source_checks.specs.Places.{Use, in_statements, statement_uses, first_unknown}
use Rattle.source_checks.specs.Widths.{all_width_faults}
use Rattle.source_checks.specs.Drivers.{Driver, drivers, all_driven, first_second_driver, first_undriven}
use Rattle.source_checks.specs.declared.drivers.NameFault.{NameFault}
use Rattle.source_checks.specs.Unsupported.{all_unsupported}
use Rattle.source_checks.specs.Clock.{all_clock_lines}
use Rattle.source_checks.specs.Elaboration.{definitions, port_bits}
use Rattle.source_checks.specs.Cycles.{IsRing}

-- the most port bits that a source may have
abbrev pub most_ports : ℕ
most_ports = 4096

abbrev pub fault : FaultKind → ℕ → List Name → ReadError
fault k line names = error.Input (record { line = line; kind = k; names = names })

abbrev pub if_use : Option Use → Option ReadError → Option ReadError
if_use None later = later
if_use (Some u) later = Some (fault kind.Unknown u.line (scalar u.text ∷ []))

abbrev pub if_line : FaultKind → List ℕ → Option ReadError → Option ReadError
if_line k [] later = later
if_line k (line ∷ _) later = Some (fault k line [])

abbrev pub if_name : FaultKind → Option NameFault → Option ReadError → Option ReadError
if_name k None later = later
if_name k (Some f) later = Some (fault k f.line (f.name ∷ []))

-- the first declaration of a name that an earlier one declares, where these names are declared before
abbrev pub first_repeated : List (List ℕ) → List Symbol → Option Symbol
first_repeated before [] = None
first_repeated before (s ∷ rest) = if list_any (bytes_eq s.text) before then Some s else first_repeated (s.text ∷ before) rest

abbrev pub if_symbol : Option Symbol → Option ReadError → Option ReadError
if_symbol None later = later
if_symbol (Some s) later = Some (fault kind.Twice s.line (scalar s.text ∷ []))

-- The checks before that for rings, in their order. A reader of texts refuses a name that is declared twice where it stands.
abbrev pub first_fault : DesignFile → Option ReadError
first_fault design =
    if_symbol (first_repeated [] (symbols design))
    (if_use (first_unknown (symbols design) (in_statements statement_uses design.statements))
    (if_line kind.Width (all_width_faults design)
    (if_name kind.TwoDrivers (first_second_driver [] (drivers design))
    (if_name kind.Undriven (first_undriven (all_driven (drivers design)) (symbols design))
    (if_line kind.Unsupported (all_unsupported design)
    (if_line kind.ClockUse (all_clock_lines design) None))))))

-- the line of the assignment that drives a bit
abbrev pub DrivenOn : List Driver → Name → ℕ → Type 0
DrivenOn all n line = (d : Driver) × In d all × In n d.names × (d.line ≡ line)

-- a ring of signals, at the line of the first one's assignment
pub record IsCycle (design : DesignFile) (e : ReadError) : Type 0 where
  pub first : Name
  pub rest : List Name
  pub line : ℕ
  pub is : e ≡ fault kind.Cycle line (first ∷ rest)
  pub ring : IsRing (definitions design) (first ∷ rest)
  pub driven : DrivenOn (drivers design) first line

abbrev pub ports_error : DesignFile → ReadError
ports_error design = error.Limit (record { which = limit.Ports; reached = length (port_bits (symbols design)) })

-- no signals read each other in a ring
abbrev pub HasNoRing : DesignFile → Type 0
HasNoRing design = (ring : List Name) → IsRing (definitions design) ring → ⊥

-- Why a text is no machine: the first check that fails, or a ring, or too many port bits, in this order.
abbrev pub IsRefusedFor : DesignFile → ReadError → Type 0
IsRefusedFor design error.Memory = ⊥
IsRefusedFor design (error.Input f) =
    (first_fault design ≡ Some (error.Input f)) ⊎ ((first_fault design ≡ None) × IsCycle design (error.Input f))
IsRefusedFor design (error.Limit l) =
    (first_fault design ≡ None) × HasNoRing design × (most_ports < length (port_bits (symbols design))) × (error.Limit l ≡ ports_error design)

-- the reason, or memory has run out
abbrev pub IsRefused : DesignFile → ReadError → Type 0
IsRefused design error.Memory = Unit {0}
IsRefused design (error.Input f) = IsRefusedFor design (error.Input f)
IsRefused design (error.Limit l) = IsRefusedFor design (error.Limit l)

-- A text that is a machine: no check fails.
pub record Passes (design : DesignFile) : Type 0 where
  pub no_fault : first_fault design ≡ None
  pub no_ring : HasNoRing design
  pub few_ports : length (port_bits (symbols design)) ≤ most_ports
