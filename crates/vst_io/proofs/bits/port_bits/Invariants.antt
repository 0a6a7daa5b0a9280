use Rattle.std.proofs.Common.{◌≡◌, ◌++◌, drop}
use Rattle.vst_io.specs.Nets.{port_bits}
use Rattle.vst_io.proofs.bits.port_bits.Given as goal

abbrev pub invariant-loop-symbol : goal.invariant-loop-symbol
invariant-loop-symbol l = l.ports.items ++ port_bits (drop l.symbol-index l.known) ≡ port_bits l.known
