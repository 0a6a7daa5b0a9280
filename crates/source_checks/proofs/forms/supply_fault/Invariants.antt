use Rattle.std.proofs.Common.{◌≡◌, drop}
use Rattle.source_checks.specs.Lines.{first_line}
use Rattle.source_checks.specs.Unsupported.{supply_faults}
use Rattle.source_checks.proofs.forms.supply_fault.Given as goal

abbrev pub invariant-loop-name : goal.invariant-loop-name
invariant-loop-name l = first_line (supply_faults l.fits (drop l.name-index l.names)) ≡ first_line (supply_faults l.fits l.names)
