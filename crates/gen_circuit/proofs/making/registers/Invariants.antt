use Rattle.std.proofs.Common.{◌≡◌, map}
use Rattle.machine_core.specs.View.{register_view}
use Rattle.vlsi_base.specs.Range.{rising}
use Rattle.gen_circuit.specs.Generated.{register}
use Rattle.gen_circuit.proofs.making.registers.Given as goal

-- the registers so far
abbrev pub invariant-loop-bit : goal.invariant-loop-bit
invariant-loop-bit l = map register_view l.made.items ≡ map (register l.size) (rising 0 l.bit)
