use Rattle.std.proofs.Common.{◌≡◌, ◌-◌, get_or, ap, arith}
use Rattle.machine_core.specs.declared.equation.Register.{Register}
use Rattle.vbe_print.specs.Written.{as_port}
use Rattle.vbe_print.proofs.Lines.{ports_of, many_ports, stands_there, lines_next}
use Rattle.vbe_print.proofs.registers.registers.Goals as goal

pub loop-start-preserved : goal.loop-start-preserved
loop-start-preserved c =
    let rs = c.args.registers.now in
    let r = c.run_end-end.ensures in
    let end = c.run_end-end.result in
    let some = r.some in
    let within = r.within in
    let a = get_or rs c.loop-start.start c.index-registers-start.result in
    let a_is : a ≡ get_or rs c.loop-start.start a = ap (λ (r : Register). get_or rs c.loop-start.start r) c.index-registers-start.is in
    let z = get_or rs (end - 1) c.index-registers-end.result in
    let z_is : z ≡ get_or rs (end - 1) z = ap (λ (r : Register). get_or rs (end - 1) r) c.index-registers-end.is in
    lines_next c.args.out.now (ports_of rs) c.loop-start.start end (end - 1) (as_port a.name) (as_port z.name) c.loop-start.out c.group.new.out (omega (arith, some))
    (stands_there rs c.loop-start.start a c.loop-start-test.true a_is)
    (stands_there rs (end - 1) z (omega (arith, some, within, many_ports rs)) z_is)
    r c.in_ok-group.ensures c.loop-start.invariant
