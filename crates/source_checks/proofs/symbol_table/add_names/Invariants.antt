use Rattle.std.proofs.Common.{◌≡◌, ◌++◌, drop}
use Rattle.source_checks.specs.Symbols.{symbols_named}
use Rattle.source_checks.specs.Known.{KnowsPlaces}
use Rattle.source_checks.proofs.symbol_table.add_names.Given as goal

abbrev pub invariant-loop-name : goal.invariant-loop-name
invariant-loop-name l =
    KnowsPlaces l.places l.items.items × (l.items.items ++ symbols_named l.kind.0 l.kind.1 l.kind.2 (drop l.name-index l.names) ≡ l.initial.items.items ++ symbols_named l.kind.0 l.kind.1 l.kind.2 l.names)
