use Rattle.std.proofs.Common.{arith}
use Rattle.std.specs.List.{sum_by}
use Rattle.std.proofs.lemmas.List.{at_drop_all}
use Rattle.vst_io.proofs.Adding.{pin_count}
use Rattle.vst_io.proofs.checking.terminal_count.Goals as goal

pub returns : goal.returns
returns c =
    let rest = at_drop_all (sum_by (pin_count c.args.known.now.table)) c.args.instances.now c.loop-instance.instance-index c.loop-instance-test.false in
    omega (arith, rest, c.loop-instance.invariant.0, c.loop-instance.invariant.1)
