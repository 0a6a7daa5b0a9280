use Rattle.std.proofs.Common.{◌≡◌, drop, List}
use Rattle.vlsi_base.specs.declared.name.Name.{Name}
use Rattle.source_checks.specs.Codes.{Tied}
use Rattle.source_checks.specs.Drivers.{first_undriven}
use Rattle.source_checks.proofs.drivers.undriven.Given as goal

abbrev pub invariant-loop-symbol : goal.invariant-loop-symbol
invariant-loop-symbol l =
    (driven : List Name) → Tied l.table l.marks driven → first_undriven driven (drop l.symbol-index l.symbols) ≡ first_undriven driven l.symbols
