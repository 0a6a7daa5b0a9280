-- The checks of a source before that for rings, in three stages.
use Rattle.std.specs.Prelude.{ℕ, [], Option, None, Some}
use Rattle.vlsi_base.specs.declared.fault.FaultKind.{FaultKind}
use Rattle.vlsi_base.specs.declared.fault.FaultKind.TheVariants as kind
use Rattle.vlsi_base.specs.declared.fault.ReadError.{ReadError}
use Rattle.source_checks.specs.declared.statement.DesignFile.{DesignFile}
use Rattle.source_checks.specs.Symbols.{symbols}
use Rattle.source_checks.specs.Places.{in_statements, statement_uses, first_unknown}
use Rattle.source_checks.specs.Widths.{all_width_faults}
use Rattle.source_checks.specs.Drivers.{drivers, all_driven, first_second_driver, first_undriven}
use Rattle.source_checks.specs.Unsupported.{all_unsupported}
use Rattle.source_checks.specs.Clock.{all_clock_lines}
use Rattle.source_checks.specs.Checks.{fault, if_use, if_line, if_name, if_symbol, first_repeated}

-- the fault at a line, if there is one
abbrev pub line_fault : FaultKind → Option ℕ → Option ReadError
line_fault k None = None
line_fault k (Some line) = Some (fault k line [])

-- a name that is declared twice, or one that isn't declared
abbrev pub name_fault : DesignFile → Option ReadError
name_fault design = if_symbol (first_repeated [] (symbols design)) (if_use (first_unknown (symbols design) (in_statements statement_uses design.statements)) None)

-- a bit with two drivers, or with none
abbrev pub driver_fault : DesignFile → Option ReadError
driver_fault design = if_name kind.TwoDrivers (first_second_driver [] (drivers design)) (if_name kind.Undriven (first_undriven (all_driven (drivers design)) (symbols design)) None)

-- widths that don't fit, or bits that aren't driven once
abbrev pub shape_fault : DesignFile → Option ReadError
shape_fault design = if_line kind.Width (all_width_faults design) (driver_fault design)

-- a form that is left out, or the clock at fault
abbrev pub form_fault : DesignFile → Option ReadError
form_fault design = if_line kind.Unsupported (all_unsupported design) (if_line kind.ClockUse (all_clock_lines design) None)
