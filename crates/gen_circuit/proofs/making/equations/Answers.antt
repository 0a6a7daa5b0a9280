use Rattle.std.proofs.Common.{map}
use Rattle.machine_core.specs.View.{equation_view}
use Rattle.gen_circuit.specs.Generated.{output}
use Rattle.gen_circuit.proofs.Made.{one_more}
use Rattle.gen_circuit.proofs.making.equations.Goals as goal

pub loop-bit-preserved : goal.loop-bit-preserved
loop-bit-preserved c =
    one_more equation_view (output c.args.size) c.loop-bit.made.items c.push.new.self.items c.in_ok-output.field-0 (map equation_view c.in_ok-made.made.items) c.loop-bit.bit
    c.in_ok-push.ensures.items c.in_ok-output.ensures c.loop-bit.invariant
