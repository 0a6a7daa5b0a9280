use Rattle.vst_print.proofs.Signals.{taken_step}
use Rattle.vst_print.proofs.nets.port_texts.Goals as goal

pub loop-port-preserved : goal.loop-port-preserved
loop-port-preserved c = taken_step c.args.ports.now c.loop-port.port-index c.port-item.result c.loop-port.taken c.learn.new.self c.loop-port-test.true c.port-item.is c.loop-port.invariant c.in_ok-learn.ensures.learned
