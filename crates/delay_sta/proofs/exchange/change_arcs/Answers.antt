use Rattle.std.proofs.Common.{◌≡◌, ◌<◌, List, [], length, get_or, sym, ◌∙◌, subst, arith}
use Rattle.std.specs.Global.{Vec}
use Rattle.std.specs.Vec.{with_items}
use Rattle.std.proofs.lemmas.List.{get_or-map, with_items_is}
use Rattle.std.proofs.lemmas.Option.{slice_get-get_or}
use Rattle.net_core.specs.Places.{IsThere}
use Rattle.delay_sta.specs.declared.graph.TimedArc.{TimedArc}
use Rattle.delay_sta.specs.Graph.{group_of}
use Rattle.delay_sta.specs.Changes.{AreRetimed}
use Rattle.delay_sta.proofs.Retiming.{still_placed, changed_step, changed_all}
use Rattle.delay_sta.proofs.exchange.change_arcs.Goals as goal

pub change_group-requires-clause-placed : goal.change_group-requires-clause-placed
change_group-requires-clause-placed c = λ x t.
    let l = c.requires.inside c.loop-class.class-index 0 c.loop-class-test.true in
    let m = c.loop-class.invariant.many in
    let e : c.deref_mut.result.now ≡ group_of c.loop-class.arcs (get_or c.args.classes.now c.loop-class.class-index 0) =
    c.deref_mut.ensures.value ∙ sym (get_or-map (λ (v : Vec TimedArc). v.items) c.loop-class.arcs (get_or c.args.classes.now c.loop-class.class-index 0) c.index-arcs-class.result [] (omega (arith, l, m))) in
    still_placed c.args.netlist.now c.args.library.now c.args.by.1.now c.args.classes.now c.args.arcs.now c.loop-class.arcs c.loop-class.class-index c.loop-class.invariant c.requires.placed
    (get_or c.args.classes.now c.loop-class.class-index 0) x (subst (λ (xs : List TimedArc). IsThere xs x) e t)

pub loop-class-preserved : goal.loop-class-preserved
loop-class-preserved c =
    let l = c.requires.inside c.loop-class.class-index 0 c.loop-class-test.true in
    let m = c.loop-class.invariant.many in
    let low : get_or c.args.classes.now c.loop-class.class-index 0 < length c.loop-class.arcs = omega (arith, l, m) in
    let e : c.deref_mut.result.now ≡ group_of c.loop-class.arcs (get_or c.args.classes.now c.loop-class.class-index 0) =
    c.deref_mut.ensures.value ∙ sym (get_or-map (λ (v : Vec TimedArc). v.items) c.loop-class.arcs (get_or c.args.classes.now c.loop-class.class-index 0) c.index-arcs-class.result [] low) in
    let whole = with_items_is (get_or c.loop-class.arcs (get_or c.args.classes.now c.loop-class.class-index 0) c.index-arcs-class.result) c.change_group.new.arcs (c.change_group.auto.arcs ∙ c.deref_mut.ensures.len) in
    changed_step c.args.netlist.now c.args.library.now c.args.by.1.now c.args.classes.now c.args.arcs.now c.loop-class.arcs c.loop-class.class-index (get_or c.args.classes.now c.loop-class.class-index 0)
    (with_items (get_or c.loop-class.arcs (get_or c.args.classes.now c.loop-class.class-index 0) c.index-arcs-class.result) c.change_group.new.arcs)
    c.loop-class.invariant (slice_get-get_or c.args.classes.now c.loop-class.class-index 0 c.loop-class-test.true) low
    (subst (λ (ys : List TimedArc). AreRetimed c.args.netlist.now c.args.library.now (get_or c.args.by.1.now (get_or c.args.classes.now c.loop-class.class-index 0) 0) (group_of c.loop-class.arcs (get_or c.args.classes.now c.loop-class.class-index 0)) ys) (sym whole)
    (subst (λ (xs : List TimedArc). AreRetimed c.args.netlist.now c.args.library.now (get_or c.args.by.1.now (get_or c.args.classes.now c.loop-class.class-index 0) 0) xs c.change_group.new.arcs) e c.change_group.ensures))

pub returns-clause-changed : goal.returns-clause-changed
returns-clause-changed c =
    changed_all c.args.netlist.now c.args.library.now c.args.by.1.now c.args.classes.now c.args.arcs.now c.loop-class.arcs c.loop-class.class-index c.loop-class-test.false c.loop-class.invariant
