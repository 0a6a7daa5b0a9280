use Rattle.std.proofs.Common.{◌≡◌, ◌++◌, drop}
use Rattle.vbe_io.specs.Cell.{pin_bits}
use Rattle.vbe_io.proofs.cell_text.pins.Given as goal

abbrev pub invariant-loop-symbol : goal.invariant-loop-symbol
invariant-loop-symbol l = l.ports.items ++ pin_bits (drop l.symbol-index l.symbols) ≡ pin_bits l.symbols
