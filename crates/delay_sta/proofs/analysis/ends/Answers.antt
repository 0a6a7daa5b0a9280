use Rattle.std.proofs.Common.{◌⊎◌, ◌+◌, ◌∙◌, ℕ, List, ap, length, refl, sym, subst, arith}
use Rattle.std.specs.Prelude.{◌↔◌, slice_index}
use Rattle.std.specs.Global.{Vec}
use Rattle.std.proofs.lemmas.List.{length-map}
use Rattle.std.proofs.lemmas.Option.{slice_get_read, slice_get_past}
use Rattle.vlsi_base.specs.declared.name.Port.{Port}
use Rattle.net_core.specs.Places.{IsThere}
use Rattle.cell_model.specs.Cell.{Cell}
use Rattle.cell_model.specs.Library.{Library}
use Rattle.net_core.specs.Frame.{instance_of}
use Rattle.delay_sta.specs.Graph.{AreFound, IsOutputBefore, IsDataClass}
use Rattle.delay_sta.proofs.Gathering.{at_node}
use Rattle.delay_sta.proofs.Edges.{EndedSoFar, ended_ports, ended_some, ended_none, ended_all}
use Rattle.delay_sta.proofs.analysis.ends.Goals.{in-Some+in_ok-push_data_class, in_default}
use Rattle.delay_sta.proofs.analysis.ends.Goals as goal

pub loop-node-init : goal.loop-node-init
loop-node-init c =
    ended_ports c.args.netlist.now c.requires.sound c.args.library.now c.in_ok-ends.ends.items
    (subst (λ (cs : List ℕ). (class : ℕ) → IsThere c.in_ok-ends.ends.items class ↔ IsOutputBefore c.args.netlist.now.ports cs (length c.args.netlist.now.ports) class) c.classes.ensures.classes
    (subst (λ (ps : List Port). (class : ℕ) → IsThere c.in_ok-ends.ends.items class ↔ IsOutputBefore ps c.classes.result.now (length ps) class) c.ports.ensures c.in_ok-ends.ensures))

pub loop-node-preserved : goal.loop-node-preserved
loop-node-preserved c =
    let same = ap (λ (x : Library). x.cells) c.cells.ensures.value in
    let at = at_node c.args.netlist.now c.args.library.now c.args.netlist.now.models c.cells.result.now c.nodes-node-items.result.now c.args.places.now c.loop-node.node-index c.node-item.result refl same c.nodes-node-items.ensures.seen
    c.nodes-node-items.ensures.known (subst (λ (cs : List Cell). AreFound cs c.args.netlist.now.models c.args.places.now) (sym same) c.requires.cells) c.loop-node-test.true c.node-item.is in
    elim c.match-get.branch [
      | in-Some+in_ok-push_data_class w ↦
          let s = slice_get_read c.cells.result.now (length c.cells.result.now) (slice_index c.args.places.now c.node-item.result.model) w.in-Some.cell.now refl w.in-Some.ensures.lookup.3.0 w.in-Some.ensures.lookup.1 in
          ended_some c.args.netlist.now c.args.library.now c.loop-node.ends.items c.match-get.ends.items c.loop-node.node-index c.node-item.result w.in-Some.cell.now
          (record { stands = at.stands; cell = at.cell ∙ s })
          (subst (λ (v : Vec ℕ). (d : ℕ) → IsThere v.items d ↔ (IsThere c.loop-node.ends.items d ⊎ IsDataClass c.args.netlist.now c.node-item.result.name w.in-Some.cell.now d)) (sym w.ends-is) w.in_ok-push_data_class.ensures)
          c.loop-node.invariant
      | in_default w ↦
          subst (λ (v : Vec ℕ). EndedSoFar c.args.netlist.now c.args.library.now v.items (c.loop-node.node-index + 1)) (sym w.ends-is)
          (ended_none c.args.netlist.now c.args.library.now c.loop-node.ends.items c.loop-node.node-index c.node-item.result
          (record { stands = at.stands; cell = at.cell ∙ slice_get_past c.cells.result.now (slice_index c.args.places.now c.node-item.result.model) w.in_default.ensures.lookup.3 }) c.loop-node.invariant)
    ]

pub returns : goal.returns
returns c =
    let e = ap length c.nodes-node-items.ensures.seen in
    let m = length-map c.nodes-node-items.result.now (instance_of c.args.netlist.now.models) in
    let t = c.loop-node-test.false in
    ended_all c.args.netlist.now c.args.library.now c.loop-node.ends.items c.loop-node.node-index (omega (arith, e, m, t)) c.loop-node.invariant
