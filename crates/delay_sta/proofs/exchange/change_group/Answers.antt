use Rattle.std.proofs.Common.{◌<◌, length, get_or, false, arith}
use Rattle.std.proofs.lemmas.Option.{slice_get-get_or}
use Rattle.delay_sta.specs.declared.graph.TimedArc.{TimedArc}
use Rattle.delay_sta.proofs.Retiming.{retimed_step, retimed_all, not_yet}
use Rattle.delay_sta.proofs.exchange.change_group.Goals as goal

none : TimedArc
none = record { from = 0; to = 0; delay = 0; begins = false; owner = 0; input = 0; output = 0 }

pub loop-k-preserved : goal.loop-k-preserved
unfolding none
loop-k-preserved c =
    let t = c.loop-k-test.true in
    let a = c.loop-k.auto.arcs in
    let l : c.loop-k.k < length c.loop-k.arcs = omega (arith, t, a) in
    let s = slice_get-get_or c.loop-k.arcs c.loop-k.k none l in
    let p = c.requires.placed (get_or c.loop-k.arcs c.loop-k.k none) (c.loop-k.k, not_yet c.args.netlist.now c.args.library.now c.args.load c.args.arcs.now c.loop-k.arcs c.loop-k.k (get_or c.loop-k.arcs c.loop-k.k none) c.loop-k.invariant s) in
    retimed_step c.args.netlist.now c.args.library.now c.args.load c.args.arcs.now c.loop-k.arcs c.loop-k.k c.time_of.result (get_or c.loop-k.arcs c.loop-k.k none) c.loop-k.invariant s p
    c.time_of.ensures.short (c.time_of.ensures.time p)

pub returns : goal.returns
returns c =
    let t = c.loop-k-test.false in
    let a = c.loop-k.auto.arcs in
    retimed_all c.args.netlist.now c.args.library.now c.args.load c.args.arcs.now c.loop-k.arcs c.loop-k.k (omega (arith, t, a)) c.loop-k.invariant
