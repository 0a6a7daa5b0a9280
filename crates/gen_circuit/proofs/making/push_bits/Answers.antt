use Rattle.gen_circuit.specs.Generated.{bit_of}
use Rattle.gen_circuit.proofs.Made.{one_item}
use Rattle.gen_circuit.proofs.making.push_bits.Goals as goal

pub loop-bit-preserved : goal.loop-bit-preserved
loop-bit-preserved c =
    one_item (bit_of c.args.text.now) c.loop-bit.names.items c.push.new.self.items c.in_ok-bit_of.field-0 c.args.names.now.items c.loop-bit.bit c.in_ok-push.ensures.items
    c.in_ok-bit_of.ensures c.loop-bit.invariant
