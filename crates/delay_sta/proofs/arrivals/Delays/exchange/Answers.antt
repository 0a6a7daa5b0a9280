use Rattle.std.proofs.Common.{ℕ, Bool, false, List, length, get_or, Option, None, sym, ap, ◌∙◌, subst}
use Rattle.std.specs.Global.{Vec}
use Rattle.std.specs.Vec.{with_items}
use Rattle.std.proofs.lemmas.List.{with_items_is}
use Rattle.net_core.specs.Places.{IsThere}
use Rattle.delay_sta.specs.declared.graph.TimedArc.{TimedArc}
use Rattle.delay_sta.specs.Paths.{Arrives, IsGreatest}
use Rattle.delay_sta.specs.Graph.{group_of, AreArcsOf, AreReached}
use Rattle.delay_sta.specs.Exchanged.{IsSetTo}
use Rattle.delay_sta.specs.Changes.{AreLoads}
use Rattle.delay_sta.proofs.Swapping.{cell_there}
use Rattle.delay_sta.proofs.Delaying.{graph_as, reached_as, sources_as, rest_as, settled_as, Changed, changed_as, count_same, arcs_placed, cells_found, now_starts, now_ends, now_order, now_arcs, now_reached, now_graph, now_sources, now_rest, now_arrivals}
use Rattle.delay_sta.proofs.arrivals.Delays.exchange.Goals as goal

pub change_arcs-requires-clause-placed : goal.change_arcs-requires-clause-placed
change_arcs-requires-clause-placed c = λ class y t.
    let set : IsSetTo c.args.library.now c.args.netlist.now c.set_model.new.self c.args.number c.args.place =
    record {
      cell = get_or c.cells.result.now c.args.place c.index-cells-place.result;
      there = cell_there c.args.library.now c.cells.result.now c.args.place c.index-cells-place.result c.requires.exchange.now c.cells.ensures.value c.requires.exchange.there;
      sets = c.set_model.ensures;
    } in
    arcs_placed c.args.library.now c.args.netlist.now c.set_model.new.self c.args.number c.args.place c.requires.exchange set c.requires.timed c.cells.ensures.checked.arcs c.requires.sound c.pin_classes-classes.ensures.sound c.args.self.now c.requires.delays c.pin_classes-classes.result.now c.pin_classes-classes.ensures.classes c.pin_classes-classes.ensures.few class y
    (subst (λ (groups : List (Vec TimedArc)). IsThere (group_of groups class) y) c.deref_mut-2.ensures.value t)

pub settle-requires-clause-graph : goal.settle-requires-clause-graph
settle-requires-clause-graph c =
    let set : IsSetTo c.args.library.now c.args.netlist.now c.set_model.new.self c.args.number c.args.place =
    record {
      cell = get_or c.cells.result.now c.args.place c.index-cells-place.result;
      there = cell_there c.args.library.now c.cells.result.now c.args.place c.index-cells-place.result c.requires.exchange.now c.cells.ensures.value c.requires.exchange.there;
      sets = c.set_model.ensures;
    } in
    let known : AreLoads c.set_model.new.self c.args.library.now c.change_loads.new.loads = c.change_loads.ensures c.set_model.new.self set in
    let change : Changed c.set_model.new.self c.args.library.now c.change_loads.new.loads c.pin_classes-classes.result.now c.args.self.now.arcs.items c.change_arcs.new.arcs =
    changed_as c.set_model.new.self c.args.library.now c.change_loads.new.loads c.deref-2.result.now c.pin_classes-classes.result.now c.args.self.now.arcs.items c.deref_mut-2.result.now c.change_arcs.new.arcs
    (c.deref-2.ensures.value ∙ with_items_is c.args.self.now.loads c.change_loads.new.loads (c.change_loads.auto.loads ∙ c.deref_mut.ensures.len)) c.deref_mut-2.ensures.value c.change_arcs.ensures.many c.change_arcs.ensures.changed c.change_arcs.ensures.others in
    graph_as c.change_arcs.new.arcs c.deref-5.result.now c.args.self.now.order.items c.deref-4.result.now c.args.self.now.arrivals.items c.deref_mut-4.result.now
    (c.deref-5.ensures.value ∙ with_items_is c.args.self.now.arcs c.change_arcs.new.arcs (c.change_arcs.auto.arcs ∙ c.deref_mut-2.ensures.len)) c.deref-4.ensures.value c.deref_mut-4.ensures.value
    (now_graph c.args.library.now c.args.netlist.now c.set_model.new.self c.args.number c.args.place c.requires.exchange set c.requires.timed c.cells.ensures.checked.arcs c.requires.sound c.pin_classes-classes.ensures.sound c.args.self.now c.requires.delays c.pin_classes-classes.result.now c.pin_classes-classes.ensures.classes c.pin_classes-classes.ensures.few c.change_loads.new.loads c.change_arcs.new.arcs known change)

pub settle-requires-clause-reached : goal.settle-requires-clause-reached
settle-requires-clause-reached c =
    let set : IsSetTo c.args.library.now c.args.netlist.now c.set_model.new.self c.args.number c.args.place =
    record {
      cell = get_or c.cells.result.now c.args.place c.index-cells-place.result;
      there = cell_there c.args.library.now c.cells.result.now c.args.place c.index-cells-place.result c.requires.exchange.now c.cells.ensures.value c.requires.exchange.there;
      sets = c.set_model.ensures;
    } in
    let known : AreLoads c.set_model.new.self c.args.library.now c.change_loads.new.loads = c.change_loads.ensures c.set_model.new.self set in
    let change : Changed c.set_model.new.self c.args.library.now c.change_loads.new.loads c.pin_classes-classes.result.now c.args.self.now.arcs.items c.change_arcs.new.arcs =
    changed_as c.set_model.new.self c.args.library.now c.change_loads.new.loads c.deref-2.result.now c.pin_classes-classes.result.now c.args.self.now.arcs.items c.deref_mut-2.result.now c.change_arcs.new.arcs
    (c.deref-2.ensures.value ∙ with_items_is c.args.self.now.loads c.change_loads.new.loads (c.change_loads.auto.loads ∙ c.deref_mut.ensures.len)) c.deref_mut-2.ensures.value c.change_arcs.ensures.many c.change_arcs.ensures.changed c.change_arcs.ensures.others in
    reached_as c.change_arcs.new.arcs c.deref-5.result.now c.args.self.now.reached.items c.deref-6.result.now (c.deref-5.ensures.value ∙ with_items_is c.args.self.now.arcs c.change_arcs.new.arcs (c.change_arcs.auto.arcs ∙ c.deref_mut-2.ensures.len)) c.deref-6.ensures.value
    (now_reached c.args.library.now c.args.netlist.now c.set_model.new.self c.args.number c.args.place c.requires.exchange set c.requires.timed c.cells.ensures.checked.arcs c.requires.sound c.pin_classes-classes.ensures.sound c.args.self.now c.requires.delays c.pin_classes-classes.result.now c.pin_classes-classes.ensures.classes c.pin_classes-classes.ensures.few c.change_loads.new.loads c.change_arcs.new.arcs known change)

pub settle-requires-clause-sources : goal.settle-requires-clause-sources
settle-requires-clause-sources c =
    let set : IsSetTo c.args.library.now c.args.netlist.now c.set_model.new.self c.args.number c.args.place =
    record {
      cell = get_or c.cells.result.now c.args.place c.index-cells-place.result;
      there = cell_there c.args.library.now c.cells.result.now c.args.place c.index-cells-place.result c.requires.exchange.now c.cells.ensures.value c.requires.exchange.there;
      sets = c.set_model.ensures;
    } in
    let known : AreLoads c.set_model.new.self c.args.library.now c.change_loads.new.loads = c.change_loads.ensures c.set_model.new.self set in
    let change : Changed c.set_model.new.self c.args.library.now c.change_loads.new.loads c.pin_classes-classes.result.now c.args.self.now.arcs.items c.change_arcs.new.arcs =
    changed_as c.set_model.new.self c.args.library.now c.change_loads.new.loads c.deref-2.result.now c.pin_classes-classes.result.now c.args.self.now.arcs.items c.deref_mut-2.result.now c.change_arcs.new.arcs
    (c.deref-2.ensures.value ∙ with_items_is c.args.self.now.loads c.change_loads.new.loads (c.change_loads.auto.loads ∙ c.deref_mut.ensures.len)) c.deref_mut-2.ensures.value c.change_arcs.ensures.many c.change_arcs.ensures.changed c.change_arcs.ensures.others in
    sources_as c.change_arcs.new.arcs c.deref-5.result.now c.args.self.now.starts.items c.deref-3.result.now c.args.self.now.arrivals.items c.deref_mut-4.result.now
    (c.deref-5.ensures.value ∙ with_items_is c.args.self.now.arcs c.change_arcs.new.arcs (c.change_arcs.auto.arcs ∙ c.deref_mut-2.ensures.len)) c.deref-3.ensures.value c.deref_mut-4.ensures.value
    (now_sources c.args.library.now c.args.netlist.now c.set_model.new.self c.args.number c.args.place c.requires.exchange set c.requires.timed c.cells.ensures.checked.arcs c.requires.sound c.pin_classes-classes.ensures.sound c.args.self.now c.requires.delays c.pin_classes-classes.result.now c.pin_classes-classes.ensures.classes c.pin_classes-classes.ensures.few c.change_loads.new.loads c.change_arcs.new.arcs change)

pub settle-requires-clause-rest : goal.settle-requires-clause-rest
settle-requires-clause-rest c =
    let set : IsSetTo c.args.library.now c.args.netlist.now c.set_model.new.self c.args.number c.args.place =
    record {
      cell = get_or c.cells.result.now c.args.place c.index-cells-place.result;
      there = cell_there c.args.library.now c.cells.result.now c.args.place c.index-cells-place.result c.requires.exchange.now c.cells.ensures.value c.requires.exchange.there;
      sets = c.set_model.ensures;
    } in
    let known : AreLoads c.set_model.new.self c.args.library.now c.change_loads.new.loads = c.change_loads.ensures c.set_model.new.self set in
    let change : Changed c.set_model.new.self c.args.library.now c.change_loads.new.loads c.pin_classes-classes.result.now c.args.self.now.arcs.items c.change_arcs.new.arcs =
    changed_as c.set_model.new.self c.args.library.now c.change_loads.new.loads c.deref-2.result.now c.pin_classes-classes.result.now c.args.self.now.arcs.items c.deref_mut-2.result.now c.change_arcs.new.arcs
    (c.deref-2.ensures.value ∙ with_items_is c.args.self.now.loads c.change_loads.new.loads (c.change_loads.auto.loads ∙ c.deref_mut.ensures.len)) c.deref_mut-2.ensures.value c.change_arcs.ensures.many c.change_arcs.ensures.changed c.change_arcs.ensures.others in
    rest_as c.change_arcs.new.arcs c.deref-5.result.now c.args.self.now.starts.items c.deref-3.result.now c.args.self.now.arrivals.items c.deref_mut-4.result.now c.mark.new.stale c.deref_mut-5.result.now
    (c.deref-5.ensures.value ∙ with_items_is c.args.self.now.arcs c.change_arcs.new.arcs (c.change_arcs.auto.arcs ∙ c.deref_mut-2.ensures.len)) c.deref-3.ensures.value c.deref_mut-4.ensures.value (c.deref_mut-5.ensures.value ∙ with_items_is c.args.self.now.stale c.mark.new.stale (c.mark.auto.stale ∙ c.deref_mut-3.ensures.len))
    (now_rest c.args.library.now c.args.netlist.now c.set_model.new.self c.args.number c.args.place c.requires.exchange set c.requires.timed c.cells.ensures.checked.arcs c.requires.sound c.pin_classes-classes.ensures.sound c.args.self.now c.requires.delays c.pin_classes-classes.result.now c.pin_classes-classes.ensures.classes c.pin_classes-classes.ensures.few c.change_loads.new.loads c.change_arcs.new.arcs c.mark.new.stale known change c.mark.ensures.marked)

pub returns-clause-sets : goal.returns-clause-sets
returns-clause-sets c = record {
  cell = get_or c.cells.result.now c.args.place c.index-cells-place.result;
  there = cell_there c.args.library.now c.cells.result.now c.args.place c.index-cells-place.result c.requires.exchange.now c.cells.ensures.value c.requires.exchange.there;
  sets = c.set_model.ensures;
}

pub returns-clause-delays : goal.returns-clause-delays
returns-clause-delays c =
    let set : IsSetTo c.args.library.now c.args.netlist.now c.set_model.new.self c.args.number c.args.place =
    record {
      cell = get_or c.cells.result.now c.args.place c.index-cells-place.result;
      there = cell_there c.args.library.now c.cells.result.now c.args.place c.index-cells-place.result c.requires.exchange.now c.cells.ensures.value c.requires.exchange.there;
      sets = c.set_model.ensures;
    } in
    let known : AreLoads c.set_model.new.self c.args.library.now c.change_loads.new.loads = c.change_loads.ensures c.set_model.new.self set in
    let change : Changed c.set_model.new.self c.args.library.now c.change_loads.new.loads c.pin_classes-classes.result.now c.args.self.now.arcs.items c.change_arcs.new.arcs =
    changed_as c.set_model.new.self c.args.library.now c.change_loads.new.loads c.deref-2.result.now c.pin_classes-classes.result.now c.args.self.now.arcs.items c.deref_mut-2.result.now c.change_arcs.new.arcs
    (c.deref-2.ensures.value ∙ with_items_is c.args.self.now.loads c.change_loads.new.loads (c.change_loads.auto.loads ∙ c.deref_mut.ensures.len)) c.deref_mut-2.ensures.value c.change_arcs.ensures.many c.change_arcs.ensures.changed c.change_arcs.ensures.others in
    let as_arrivals = with_items_is c.args.self.now.arrivals c.settle.new.arrivals (c.settle.auto.arrivals ∙ c.deref_mut-4.ensures.len) in
    let as_loads = with_items_is c.args.self.now.loads c.change_loads.new.loads (c.change_loads.auto.loads ∙ c.deref_mut.ensures.len) in
    let as_arcs = with_items_is c.args.self.now.arcs c.change_arcs.new.arcs (c.change_arcs.auto.arcs ∙ c.deref_mut-2.ensures.len) in
    let as_marked = with_items_is c.args.self.now.stale c.mark.new.stale (c.mark.auto.stale ∙ c.deref_mut-3.ensures.len) in
    let as_stale = with_items_is (with_items c.args.self.now.stale c.mark.new.stale) c.settle.new.stale (c.settle.auto.stale ∙ c.deref_mut-5.ensures.len) in
    let count = count_same c.args.library.now c.args.netlist.now c.set_model.new.self c.args.number c.args.place c.requires.exchange set c.requires.timed c.cells.ensures.checked.arcs c.requires.sound c.pin_classes-classes.ensures.sound c.args.self.now c.requires.delays c.pin_classes-classes.result.now c.pin_classes-classes.ensures.classes c.pin_classes-classes.ensures.few in
    record {
      counted = (ap length as_arrivals ∙ c.settle.ensures.many.0 ∙ ap length c.deref_mut-4.ensures.value ∙ c.requires.delays.counted.0 ∙ sym count, ap length as_loads ∙ known.many);
      arrivals = λ class low. subst (λ (ts : List (Option ℕ)). IsGreatest (Arrives c.set_model.new.self c.args.library.now class) (get_or ts class None)) (sym as_arrivals) (now_arrivals c.args.library.now c.args.netlist.now c.set_model.new.self c.args.number c.args.place c.requires.exchange set c.requires.timed c.cells.ensures.checked.arcs c.requires.sound c.pin_classes-classes.ensures.sound c.args.self.now c.requires.delays c.pin_classes-classes.result.now c.pin_classes-classes.ensures.classes c.pin_classes-classes.ensures.few c.change_loads.new.loads c.change_arcs.new.arcs known change c.settle.new.arrivals
          (settled_as c.change_arcs.new.arcs c.deref-5.result.now c.args.self.now.starts.items c.deref-3.result.now c.settle.new.arrivals (c.deref-5.ensures.value ∙ with_items_is c.args.self.now.arcs c.change_arcs.new.arcs (c.change_arcs.auto.arcs ∙ c.deref_mut-2.ensures.len)) c.deref-3.ensures.value c.settle.ensures.settled) class low);
      loads = λ class low. ap (λ (xs : List ℕ). get_or xs class 0) as_loads ∙ known.each class low;
      short = known.short;
      ends = now_ends c.args.library.now c.args.netlist.now c.set_model.new.self c.args.number c.args.place c.requires.exchange set c.requires.timed c.cells.ensures.checked.arcs c.requires.sound c.pin_classes-classes.ensures.sound c.args.self.now c.requires.delays c.pin_classes-classes.result.now c.pin_classes-classes.ensures.classes c.pin_classes-classes.ensures.few;
      order = now_order c.args.library.now c.args.netlist.now c.set_model.new.self c.args.number c.args.place c.requires.exchange set c.requires.timed c.cells.ensures.checked.arcs c.requires.sound c.pin_classes-classes.ensures.sound c.args.self.now c.requires.delays c.pin_classes-classes.result.now c.pin_classes-classes.ensures.classes c.pin_classes-classes.ensures.few;
      starts = now_starts c.args.library.now c.args.netlist.now c.set_model.new.self c.args.number c.args.place c.requires.exchange set c.requires.timed c.cells.ensures.checked.arcs c.requires.sound c.pin_classes-classes.ensures.sound c.args.self.now c.requires.delays c.pin_classes-classes.result.now c.pin_classes-classes.ensures.classes c.pin_classes-classes.ensures.few;
      arcs = subst (λ (groups : List (Vec TimedArc)). AreArcsOf c.set_model.new.self c.args.library.now groups) (sym as_arcs) (now_arcs c.args.library.now c.args.netlist.now c.set_model.new.self c.args.number c.args.place c.requires.exchange set c.requires.timed c.cells.ensures.checked.arcs c.requires.sound c.pin_classes-classes.ensures.sound c.args.self.now c.requires.delays c.pin_classes-classes.result.now c.pin_classes-classes.ensures.classes c.pin_classes-classes.ensures.few c.change_loads.new.loads c.change_arcs.new.arcs known change);
      reached = subst (λ (groups : List (Vec TimedArc)). AreReached groups c.args.self.now.reached.items) (sym as_arcs) (now_reached c.args.library.now c.args.netlist.now c.set_model.new.self c.args.number c.args.place c.requires.exchange set c.requires.timed c.cells.ensures.checked.arcs c.requires.sound c.pin_classes-classes.ensures.sound c.args.self.now c.requires.delays c.pin_classes-classes.result.now c.pin_classes-classes.ensures.classes c.pin_classes-classes.ensures.few c.change_loads.new.loads c.change_arcs.new.arcs known change);
      places = cells_found c.args.library.now c.args.netlist.now c.set_model.new.self c.args.number c.args.place c.requires.exchange set c.requires.timed c.cells.ensures.checked.arcs c.requires.sound c.pin_classes-classes.ensures.sound c.args.self.now c.requires.delays c.pin_classes-classes.result.now c.pin_classes-classes.ensures.classes c.pin_classes-classes.ensures.few;
      fresh = λ class. ap (λ (bs : List Bool). get_or bs class false) as_stale ∙ c.settle.ensures.fresh class;
      kept = (
        ap length as_stale ∙ c.settle.ensures.many.1 ∙ ap length (c.deref_mut-5.ensures.value ∙ as_marked) ∙ c.mark.ensures.many ∙ ap length c.deref_mut-3.ensures.value ∙ c.requires.delays.kept.0 ∙ sym count,
        c.requires.delays.kept.1 ∙ sym count,
      );
    }
