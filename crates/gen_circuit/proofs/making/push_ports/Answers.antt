use Rattle.std.proofs.Common.{ap}
use Rattle.gen_circuit.specs.Generated.{bit_of, port_of}
use Rattle.gen_circuit.proofs.Made.{one_item}
use Rattle.gen_circuit.proofs.making.push_ports.Goals as goal

pub loop-bit-preserved : goal.loop-bit-preserved
loop-bit-preserved c =
    one_item (λ k. port_of c.args.dir (bit_of c.args.text.now k)) c.loop-bit.ports.items c.push.new.self.items (port_of c.args.dir c.in_ok-bit_of.field-0) c.args.ports.now.items
    c.loop-bit.bit c.in_ok-push.ensures.items (ap (port_of c.args.dir) c.in_ok-bit_of.ensures) c.loop-bit.invariant
