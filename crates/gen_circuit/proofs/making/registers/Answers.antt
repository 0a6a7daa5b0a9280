use Rattle.std.proofs.Common.{[]}
use Rattle.machine_core.specs.View.{register_view}
use Rattle.gen_circuit.specs.Generated.{register}
use Rattle.gen_circuit.proofs.Made.{one_more}
use Rattle.gen_circuit.proofs.making.registers.Goals as goal

pub loop-bit-preserved : goal.loop-bit-preserved
loop-bit-preserved c =
    one_more register_view (register c.args.size) c.loop-bit.made.items c.push.new.self.items c.in_ok-register.field-0 [] c.loop-bit.bit c.in_ok-push.ensures.items
    c.in_ok-register.ensures c.loop-bit.invariant
