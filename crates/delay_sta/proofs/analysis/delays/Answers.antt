use Rattle.std.proofs.Common.{◌≡◌, ◌<◌, ◌^◌, ◌∙◌, List, ℕ, Option, false, length, sym, ap, subst, arith, rules}
use Rattle.std.specs.List.{All}
use Rattle.std.specs.Global.{Vec}
use Rattle.std.proofs.lemmas.List.{length-replicate}
use Rattle.cell_model.specs.Cell.{Cell}
use Rattle.cell_model.specs.Library.{Library}
use Rattle.delay_sta.specs.declared.graph.TimedArc.{TimedArc}
use Rattle.delay_sta.specs.Graph.{AreFound, AreGrouped, AreArcsOf, AreOnward, AreReached, IsGraph, AreSettled}
use Rattle.delay_sta.proofs.Routes.{all_to, all_from, arcs_of, reached_of, graph_of, arrivals_of}
use Rattle.delay_sta.proofs.analysis.delays.Goals as goal

pub grouped-requires : goal.grouped-requires
grouped-requires c =
    subst (λ m. All (λ (x : TimedArc). x.to < m) c.deref-4.result.now) (sym c.count.ensures)
    (subst (λ (xs : List TimedArc). All (λ (x : TimedArc). x.to < c.args.netlist.now.count) xs) (sym c.deref-4.ensures.value)
    (all_to c.args.netlist.now c.args.library.now c.classes.ensures.sound c.in_ok-all.all.items c.in_ok-all.ensures))

pub reached-requires : goal.reached-requires
reached-requires c =
    subst (λ m. All (λ (x : TimedArc). x.from < m) c.deref-5.result.now) (sym c.count-2.ensures)
    (subst (λ (xs : List TimedArc). All (λ (x : TimedArc). x.from < c.args.netlist.now.count) xs) (sym c.deref-5.ensures.value)
    (all_from c.args.netlist.now c.args.library.now c.classes.ensures.sound c.in_ok-all.all.items c.in_ok-all.ensures))

pub settled-requires-clause-graph : goal.settled-requires-clause-graph
settled-requires-clause-graph c =
    let n = c.args.netlist.now in
    let l = c.args.library.now in
    let few : c.count.result < 2 ^ 32 = search rules in
    let same = c.count.ensures in
    let are : AreArcsOf n l c.in_ok-arcs.arcs.items = arcs_of n l c.classes.ensures.sound c.in_ok-all.all.items c.in_ok-all.ensures c.in_ok-arcs.arcs.items
    (subst (λ (xs : List TimedArc). AreGrouped xs c.in_ok-arcs.arcs.items) c.deref-4.ensures.value c.in_ok-arcs.ensures.grouped) (c.in_ok-arcs.ensures.many ∙ c.count.ensures) in
    let graph : IsGraph c.in_ok-arcs.arcs.items c.in_ok-order.order.items n.count = graph_of n l c.classes.ensures.sound c.in_ok-arcs.arcs.items c.in_ok-order.order.items are c.in_ok-order.ensures (omega (arith, few, same)) in
    subst (λ m. IsGraph c.deref-8.result.now c.deref-7.result.now m) (sym (ap length c.deref-6.ensures.value ∙ c.in_ok-starts.ensures.many))
    (subst (λ (xs : List ℕ). IsGraph c.deref-8.result.now xs n.count) (sym c.deref-7.ensures.value)
    (subst (λ (gs : List (Vec TimedArc)). IsGraph gs c.in_ok-order.order.items n.count) (sym c.deref-8.ensures.value) graph))

pub settled-requires-clause-reached : goal.settled-requires-clause-reached
settled-requires-clause-reached c =
    let n = c.args.netlist.now in
    let l = c.args.library.now in
    let is : AreReached c.in_ok-arcs.arcs.items c.in_ok-reached.reached.items = reached_of n l c.classes.ensures.sound c.in_ok-all.all.items c.in_ok-all.ensures c.in_ok-arcs.arcs.items c.in_ok-reached.reached.items
    (subst (λ (xs : List TimedArc). AreGrouped xs c.in_ok-arcs.arcs.items) c.deref-4.ensures.value c.in_ok-arcs.ensures.grouped) (c.in_ok-arcs.ensures.many ∙ c.count.ensures)
    (subst (λ (xs : List TimedArc). AreOnward xs c.in_ok-reached.reached.items) c.deref-5.ensures.value c.in_ok-reached.ensures.reached) (c.in_ok-reached.ensures.many ∙ c.count-2.ensures) in
    subst (λ (gs : List (Vec TimedArc)). AreReached gs c.deref-9.result.now) (sym c.deref-8.ensures.value)
    (subst (λ (vs : List (Vec ℕ)). AreReached c.in_ok-arcs.arcs.items vs) (sym c.deref-9.ensures.value) is)

pub returns : goal.returns
returns c =
    let n = c.args.netlist.now in
    let l = c.args.library.now in
    let sound = c.classes.ensures.sound in
    let arcs = c.in_ok-arcs.arcs.items in
    let old = c.in_ok-starts.starts.items in
    let now = c.in_ok-arrivals.arrivals.items in
    let grouped : AreGrouped c.in_ok-all.all.items arcs = subst (λ (xs : List TimedArc). AreGrouped xs c.in_ok-arcs.arcs.items) c.deref-4.ensures.value c.in_ok-arcs.ensures.grouped in
    let are : AreArcsOf n l arcs = arcs_of n l sound c.in_ok-all.all.items c.in_ok-all.ensures arcs grouped (c.in_ok-arcs.ensures.many ∙ c.count.ensures) in
    let onward : AreOnward c.in_ok-all.all.items c.in_ok-reached.reached.items =
    subst (λ (xs : List TimedArc). AreOnward xs c.in_ok-reached.reached.items) c.deref-5.ensures.value c.in_ok-reached.ensures.reached in
    let size : length c.deref-6.result.now ≡ n.count = ap length c.deref-6.ensures.value ∙ c.in_ok-starts.ensures.many in
    let settled : AreSettled arcs old now =
    subst (λ (gs : List (Vec TimedArc)). AreSettled gs c.in_ok-starts.starts.items c.in_ok-arrivals.arrivals.items) c.deref-8.ensures.value
    (subst (λ (xs : List (Option ℕ)). AreSettled c.deref-8.result.now xs c.in_ok-arrivals.arrivals.items) c.deref-6.ensures.value c.in_ok-arrivals.ensures.settled) in
    let marks = ap length (c.in_ok-vec.ensures.items_if_clones_equal (λ y e. e)) ∙ length-replicate c.count-3.result false ∙ c.count-3.ensures in
    let same_cells = ap (λ (x : Library). x.cells) c.cells.ensures.value in
    record {
      counted = (c.in_ok-arrivals.ensures.many.0 ∙ size, c.in_ok-loads.ensures.many);
      arrivals = arrivals_of n l sound arcs c.in_ok-order.order.items are c.in_ok-order.ensures old now c.in_ok-starts.ensures settled;
      loads = c.in_ok-loads.ensures.loads;
      short = c.in_ok-loads.ensures.short;
      ends = c.in_ok-ends.ensures;
      order = c.in_ok-order.ensures;
      starts = c.in_ok-starts.ensures;
      arcs = are;
      reached = reached_of n l sound c.in_ok-all.all.items c.in_ok-all.ensures arcs c.in_ok-reached.reached.items grouped (c.in_ok-arcs.ensures.many ∙ c.count.ensures) onward (c.in_ok-reached.ensures.many ∙ c.count-2.ensures);
      places = subst (λ (ms : List (List ℕ)). AreFound l.cells ms c.in_ok-places.places.items) c.models.ensures
          (subst (λ (cs : List Cell). AreFound cs c.models.result.now c.in_ok-places.places.items) same_cells c.in_ok-places.ensures);
      fresh = c.in_ok-arrivals.ensures.fresh;
      kept = (c.in_ok-arrivals.ensures.many.1 ∙ size, marks);
    }
