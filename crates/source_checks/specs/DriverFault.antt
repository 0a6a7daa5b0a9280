-- What is wrong with the drivers of a text.
use Rattle.std.specs.Prelude.{◌≡◌, [], Option, None, Some}
use Rattle.source_checks.specs.declared.statement.DesignFile.{DesignFile}
use Rattle.source_checks.specs.declared.drivers.DriverFault.{DriverFault}
use Rattle.source_checks.specs.declared.drivers.DriverFault.TheVariants.{Again, Missing}
use Rattle.source_checks.specs.Symbols.{symbols}
use Rattle.source_checks.specs.Drivers.{drivers, all_driven, first_second_driver, first_undriven}

-- the first assignment that drives a bit again, or else the first declared name with a bit that has no driver
abbrev pub IsDriverFault : DesignFile → Option DriverFault → Type 0
IsDriverFault design None = (first_second_driver [] (drivers design) ≡ None) × (first_undriven (all_driven (drivers design)) (symbols design) ≡ None)
IsDriverFault design (Some (Again f)) = first_second_driver [] (drivers design) ≡ Some f
IsDriverFault design (Some (Missing f)) = (first_second_driver [] (drivers design) ≡ None) × (first_undriven (all_driven (drivers design)) (symbols design) ≡ Some f)
