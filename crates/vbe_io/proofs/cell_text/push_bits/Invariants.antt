use Rattle.std.proofs.Common.{◌≡◌, ◌++◌, map, drop}
use Rattle.source_checks.specs.Elaboration.{port_of}
use Rattle.source_checks.specs.Symbols.{bit_name}
use Rattle.vbe_io.proofs.cell_text.push_bits.Given as goal

abbrev pub invariant-loop-bit : goal.invariant-loop-bit
invariant-loop-bit l =
    l.ports.items ++ map (port_of l.dir) (map (bit_name l.symbol.text) (drop l.bit-index l.bit-items))
    ≡ l.initial.ports.items ++ map (port_of l.dir) (map (bit_name l.symbol.text) l.bit-items)
