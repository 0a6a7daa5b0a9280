use Rattle.std.proofs.Common.{◌++◌, ◌-◌, ◌∙◌, List, ℕ, ap, arith}
use Rattle.spell_theory.specs.Layout.{text_of}
use Rattle.vhdl_print.specs.Outline.{port_layout}
use Rattle.vst_print.specs.Groups.{group_of, declared}
use Rattle.vst_print.proofs.Runs.{groups_first, groups_next}
use Rattle.vst_print.proofs.Tested.{at_place}
use Rattle.vst_print.proofs.groups.groups.Goals as goal

pub loop-start-init : goal.loop-start-init
loop-start-init c =
    let r = c.run_end-start.ensures in
    let end = c.run_end-start.result in
    let some = r.some in
    let within = r.within in
    groups_first c.args.out.now c.args.ports.now end (end - 1) c.index-ports-0.result c.index-ports-start.result c.group.new.out (omega (arith, some))
    (at_place c.args.ports.now 0 c.index-ports-0.result c.requires c.index-ports-0.is)
    (at_place c.args.ports.now (end - 1) c.index-ports-start.result (omega (arith, some, within)) c.index-ports-start.is)
    r c.in_ok-group.ensures

pub loop-start-preserved : goal.loop-start-preserved
loop-start-preserved c =
    let r = c.run_end-end.ensures in
    let end = c.run_end-end.result in
    let some = r.some in
    let within = r.within in
    let a = c.index-ports-start-in-loop-start.result in
    let z = c.index-ports-end.result in
    groups_next c.args.out.now c.args.ports.now c.loop-start.start end (end - 1) a z c.loop-start.out c.group-in-loop-start.new.out (omega (arith, some))
    (at_place c.args.ports.now c.loop-start.start a c.loop-start-test.true c.index-ports-start-in-loop-start.is)
    (at_place c.args.ports.now (end - 1) z (omega (arith, some, within)) c.index-ports-end.is)
    r (c.in_ok-group-2.ensures ∙ ap (λ (x : List ℕ). x ++ text_of (port_layout (declared (group_of a z)))) c.in_ok-append.ensures.ok) c.loop-start.invariant
