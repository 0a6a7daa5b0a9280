use Rattle.std.proofs.Common.{List, ap, length, map, ◌++◌, refl, sym, ◌∙◌, subst, arith, rules}
use Rattle.std.proofs.lemmas.List.{length-map}
use Rattle.cell_model.specs.Cell.{Cell}
use Rattle.cell_model.specs.Library.{Library}
use Rattle.net_core.specs.Frame.{instance_of}
use Rattle.vlsi_base.specs.declared.name.Name.{Name}
use Rattle.delay_sta.specs.Loads.{input_capacitance, pins_at}
use Rattle.delay_sta.specs.Graph.{AreFound}
use Rattle.delay_sta.proofs.Gathering.{at_node}
use Rattle.delay_sta.proofs.Finding.{capacitances_start, capacitances_next, capacitances_end}
use Rattle.delay_sta.proofs.loads.capacitances.Goals as goal

pub loop-node-init : goal.loop-node-init
loop-node-init c = capacitances_start c.args.netlist.now c.args.library.now c.in_ok-capacitances.capacitances.items (search rules)

pub loop-node-preserved : goal.loop-node-preserved
loop-node-preserved c =
    let n = c.args.netlist.now in
    let l = c.args.library.now in
    let same = ap (λ (x : Library). x.cells) c.cells.ensures.value in
    let at = at_node c.args.netlist.now c.args.library.now c.args.netlist.now.models c.cells.result.now c.nodes-node-items.result.now c.args.places.now c.loop-node.node-index c.node-item.result refl same c.nodes-node-items.ensures.seen
    c.nodes-node-items.ensures.known (subst (λ (cs : List Cell). AreFound cs c.args.netlist.now.models c.args.places.now) (sym same) c.requires) c.loop-node-test.true c.node-item.is in
    let found = at.cell in
    capacitances_next c.args.netlist.now c.args.library.now c.loop-node.node-index c.node-item.result c.pins_at-pins.result.now c.loop-node.capacitances.items c.push_capacitances.new.capacitances.items
    (record { stands = at.stands; cell = refl })
    (c.pins_at-pins.ensures ∙ ap pins_at (sym found))
    (c.in_ok-push_capacitances.ensures ∙ ap (λ (ps : List Name). c.loop-node.capacitances.items ++ map (input_capacitance c.pins_at-pins.result.now) ps) c.as_slice.ensures) c.loop-node.invariant

pub returns : goal.returns
returns c =
    let e = ap length c.nodes-node-items.ensures.seen in
    let m = length-map c.nodes-node-items.result.now (instance_of c.args.netlist.now.models) in
    let t = c.loop-node-test.false in
    capacitances_end c.args.netlist.now c.args.library.now c.loop-node.node-index c.loop-node.capacitances.items (omega (arith, e, m, t)) c.loop-node.invariant
