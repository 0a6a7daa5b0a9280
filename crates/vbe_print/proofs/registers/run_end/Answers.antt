use Rattle.std.proofs.Common.{sym, ap, arith, ◌≡◌, get_or, true}
use Rattle.machine_core.specs.declared.equation.Register.{Register}
use Rattle.vst_print.proofs.Runs.{one_more, one_all, one_other}
use Rattle.vbe_print.specs.Written.{as_port}
use Rattle.vbe_print.proofs.Lines.{ports_of, many_ports, stands_there}
use Rattle.vbe_print.proofs.registers.run_end.Goals as goal

pub loop-end-preserved : goal.loop-end-preserved
loop-end-preserved c =
    let rs = c.args.registers.now in
    let a = get_or rs c.args.start c.index-registers-start.result in
    let a_is : a ≡ get_or rs c.args.start a = ap (λ (r : Register). get_or rs c.args.start r) c.index-registers-start.is in
    let z = get_or rs c.loop-end.end c.index-registers-end.result in
    let z_is : z ≡ get_or rs c.loop-end.end z = ap (λ (r : Register). get_or rs c.loop-end.end r) c.index-registers-end.is in
    one_more (ports_of rs) c.args.start c.loop-end.end (as_port a.name) (as_port z.name)
    (stands_there rs c.args.start a c.requires a_is) (stands_there rs c.loop-end.end z c.loop-end-test.true z_is)
    (sym (c.is_same.ensures.0 c.if-is_same.true)) (omega (arith, many_ports rs, c.loop-end-test.true)) c.loop-end.invariant

pub returns-else-is_same : goal.returns-else-is_same
returns-else-is_same c =
    let rs = c.args.registers.now in
    let a = get_or rs c.args.start c.index-registers-start.result in
    let a_is : a ≡ get_or rs c.args.start a = ap (λ (r : Register). get_or rs c.args.start r) c.index-registers-start.is in
    let z = get_or rs c.loop-end.end c.index-registers-end.result in
    let z_is : z ≡ get_or rs c.loop-end.end z = ap (λ (r : Register). get_or rs c.loop-end.end r) c.index-registers-end.is in
    one_other (ports_of rs) c.args.start c.loop-end.end (as_port a.name) (as_port z.name)
    (stands_there rs c.args.start a c.requires a_is) (stands_there rs c.loop-end.end z c.loop-end-test.true z_is)
    (λ e. let yes : c.is_same.result ≡ true = c.is_same.ensures.1 (sym e) in absurd (cc (yes, c.if-is_same.false))) c.loop-end.invariant

pub returns-after-loop-end : goal.returns-after-loop-end
returns-after-loop-end c =
    let rs = c.args.registers.now in
    one_all (ports_of rs) c.args.start c.loop-end.end (omega (arith, many_ports rs, c.loop-end-test.false)) c.loop-end.invariant
