use Rattle.std.proofs.Common.{◌≡◌, ◌++◌, map}
use Rattle.vlsi_base.specs.Range.{rising}
use Rattle.gen_circuit.specs.Generated.{bit_of, port_of}
use Rattle.gen_circuit.proofs.making.push_ports.Given as goal

-- the ports of the bits so far
abbrev pub invariant-loop-bit : goal.invariant-loop-bit
invariant-loop-bit l = l.ports.items ≡ l.initial.ports.items ++ map (λ k. port_of l.dir (bit_of l.text k)) (rising 0 l.bit)
