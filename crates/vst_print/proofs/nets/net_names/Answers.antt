use Rattle.std.proofs.Common.{◌≡◌, ◌-◌, length, arith}
use Rattle.vst_print.proofs.Signals.{each_named}
use Rattle.vst_print.proofs.nets.net_names.Goals as goal

pub returns-clause-each : goal.returns-clause-each
returns-clause-each c =
    let n = c.args.netlist.now in
    let old = c.in_ok-names.names.items in
    let many : c.saturating_sub-without.result ≡ n.count - length old = omega (arith, c.saturating_sub-without.ensures, c.len-with_port.ensures, c.count.ensures) in
    each_named n c.ports-ports.result.now c.classes.result.now old c.push_signals.new.names.items c.saturating_sub-without.result c.ports-ports.ensures c.classes.ensures.classes c.classes.ensures.few c.classes.ensures.sound
    c.in_ok-names.ensures many c.in_ok-push_signals.ensures
