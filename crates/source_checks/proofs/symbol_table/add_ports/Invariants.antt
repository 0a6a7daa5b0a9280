use Rattle.std.proofs.Common.{◌≡◌, ◌++◌, drop}
use Rattle.source_checks.specs.Symbols.{port_symbols}
use Rattle.source_checks.specs.Known.{KnowsPlaces}
use Rattle.source_checks.proofs.symbol_table.add_ports.Given as goal

abbrev pub invariant-loop-group : goal.invariant-loop-group
invariant-loop-group l =
    KnowsPlaces l.places l.items.items × (l.items.items ++ port_symbols (drop l.group-index l.groups) ≡ l.initial.items.items ++ port_symbols l.groups)
