use Rattle.std.proofs.Common.{◌≡◌, ◌++◌, drop}
use Rattle.source_checks.specs.Symbols.{port_symbols, signal_symbols}
use Rattle.vst_io.specs.Nets.{signal_groups}
use Rattle.vst_io.proofs.known.nets.Given as goal

abbrev pub invariant-loop-declaration : goal.invariant-loop-declaration
invariant-loop-declaration l =
    l.table ++ signal_symbols (signal_groups (drop l.declaration-index l.declaration-items))
    ≡ port_symbols l.file.entity.ports ++ signal_symbols (signal_groups l.declaration-items)
