use Rattle.std.proofs.Common.{◌≡◌, ◌++◌, map, drop}
use Rattle.vlsi_base.specs.NamePlaces.{name_of}
use Rattle.source_checks.specs.Elaboration.{port_of}
use Rattle.vst_io.proofs.bits.push_bits.Given as goal

abbrev pub invariant-loop-bit : goal.invariant-loop-bit
invariant-loop-bit l =
    l.ports.items ++ map (port_of l.dir) (map (name_of l.text) (drop l.bit-index l.bit-items))
    ≡ l.initial.ports.items ++ map (port_of l.dir) (map (name_of l.text) l.bit-items)
