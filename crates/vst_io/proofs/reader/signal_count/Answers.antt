use Rattle.std.proofs.Common.{not, take, arith}
use Rattle.std.proofs.lemmas.List.{length-take}
use Rattle.vlsi_base.specs.declared.name.Port.{Port}
use Rattle.vlsi_base.specs.Name.{is_supply}
use Rattle.vst_io.proofs.First.{filter_few}
use Rattle.vst_io.proofs.reader.signal_count.Goals as goal

pub overflow_add-count : goal.overflow_add-count
overflow_add-count c =
    let few = filter_few (λ (p : Port). not (is_supply p.name.text)) (take c.loop-port.port-index c.args.ports.now) in
    let within = length-take c.loop-port.port-index c.args.ports.now in
    omega (arith, few, within, c.loop-port.invariant, c.loop-port-test.true)
