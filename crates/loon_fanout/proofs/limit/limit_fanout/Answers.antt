use Rattle.std.proofs.Common.{◌<◌, ℕ, List, All, length, ap, sym, subst, None, Some, false}
use Rattle.std.specs.Global.{Vec}
use Rattle.vlsi_base.specs.Names.{vdd, vss}
use Rattle.cell_model.specs.Cell.{Cell}
use Rattle.cell_model.specs.Library.{Library}
use Rattle.cell_model.specs.Usable.{IsFormed}
use Rattle.cell_model.specs.Connectors.{PinsAreConnectors}
use Rattle.cell_pins.proofs.Sound.{connected}
use Rattle.net_core.specs.Netlist.{port}
use Rattle.net_core.proofs.Rings.{class_below}
use Rattle.loon_loads.specs.Loads.{all_marks}
use Rattle.loon_loads.proofs.Loading.{loads_below}
use Rattle.loon_fanout.specs.Sinks.{wired_of}
use Rattle.loon_fanout.proofs.Wholes.{built_gatable, built_fanout, built_cells, start_buffered, limited_buffered, start_few, limited_few, not_none, Calm, calm, crowded, Repeated, repeated, lacking}
use Rattle.loon_fanout.proofs.limit.limit_fanout.Goals as goal

pub net_loads-requires-clause-high : goal.net_loads-requires-clause-high
net_loads-requires-clause-high c =
    class_below c.args.netlist.now c.in_ok-wiring.ensures.sound (port vdd) c.in_ok-wiring.wiring.high c.in_ok-wiring.ensures.start.high

pub net_loads-requires-clause-low : goal.net_loads-requires-clause-low
net_loads-requires-clause-low c =
    class_below c.args.netlist.now c.in_ok-wiring.ensures.sound (port vss) c.in_ok-wiring.wiring.low c.in_ok-wiring.ensures.start.low

pub make_repeater-requires-clause-formed : goal.make_repeater-requires-clause-formed
make_repeater-requires-clause-formed c =
    subst (λ (cs : List Cell). All IsFormed cs) (sym (ap (λ (l : Library). l.cells) c.cells-cells.ensures.value)) c.cells-cells.ensures.checked.formed

pub make_repeater-requires-clause-connectors : goal.make_repeater-requires-clause-connectors
make_repeater-requires-clause-connectors c =
    subst (λ (cs : List Cell). All PinsAreConnectors cs) (sym (ap (λ (l : Library). l.cells) c.cells-cells.ensures.value)) (connected c.args.library.now c.cells-cells.ensures.checked)

pub limit_all-requires-clause-places : goal.limit_all-requires-clause-places
limit_all-requires-clause-places c =
    subst (λ (ls : List (Vec ℕ)). All (λ sinks. All (λ place. place < length c.in_ok-wiring.wiring.classes.items) sinks.items) ls) (sym c.deref-in-Some.ensures.value)
    (loads_below (all_marks c.args.library.now c.args.netlist.now) c.args.netlist.now.classes c.args.netlist.now.count c.in_ok-wiring.wiring.high c.in_ok-wiring.wiring.low (length c.in_ok-wiring.wiring.classes.items) c.in_ok-loads.loads.items
    c.in_ok-loads.ensures (ap length (sym c.in_ok-wiring.ensures.start.classes)))

calm_then : (c : goal.After-drop-loads-then-not-is_crowded) → Calm c.args.library.now c.args.netlist.now c.in_ok-wiring.wiring c.args.fanout
calm_then c =
    calm c.args.library.now c.args.netlist.now c.in_ok-wiring.wiring c.args.fanout c.in_ok-wiring.ensures.sound c.requires.cells c.requires.room
    c.in_ok-wiring.ensures.start c.in_ok-loads.loads.items c.deref.result.now c.in_ok-loads.ensures c.deref.ensures.value c.is_crowded.result
    c.if-not-is_crowded.true c.is_crowded.ensures

repeated_then : (c : goal.After-drop-loads-in-Some-1) → Repeated c.args.library.now c.args.netlist.now c.in-Some.found c.limit_all.new.self c.args.fanout
repeated_then c =
    repeated c.texts_are_free.ensures.free c.args.library.now c.args.netlist.now c.args.fanout c.requires.size c.in_ok-wiring.ensures.sound
    c.requires.cells c.requires.room c.cells-cells.result.now c.cells-cells.ensures.value c.cells-cells.ensures.checked c.in_ok-found.field-0
    c.in-Some.found c.in-Some.is c.in_ok-found.ensures.found c.in_ok-wiring.wiring c.limit_all.new.self c.in_ok-wiring.ensures.start
    c.in_ok-loads.loads.items c.deref-in-Some.result.now c.in_ok-loads.ensures c.deref-in-Some.ensures.value c.in_ok-limit_all-in-Some.ensures

pub with_gates-requires : goal.with_gates-requires
with_gates-requires c =
    let k =
    calm c.args.library.now c.args.netlist.now c.in_ok-wiring.wiring c.args.fanout c.in_ok-wiring.ensures.sound c.requires.cells c.requires.room
    c.in_ok-wiring.ensures.start c.in_ok-loads.loads.items c.deref.result.now c.in_ok-loads.ensures c.deref.ensures.value c.is_crowded.result
    c.if-not-is_crowded.true c.is_crowded.ensures in
    built_gatable c.args.library.now c.args.netlist.now None c.in_ok-wiring.wiring c.args.fanout (wired_of c.args.netlist.now) k.built

pub returns-then-not-is_crowded-clause-buffered : goal.returns-then-not-is_crowded-clause-buffered
returns-then-not-is_crowded-clause-buffered c =
    let k = calm_then c in
    start_buffered c.args.library.now c.args.netlist.now c.in_ok-wiring.wiring c.args.fanout c.in_ok-with_gates.field-0 k.not_crowded k.built
    c.in_ok-with_gates.ensures.gated

pub returns-then-not-is_crowded-clause-fanout : goal.returns-then-not-is_crowded-clause-fanout
returns-then-not-is_crowded-clause-fanout c =
    let k = calm_then c in
    built_fanout c.args.library.now c.args.netlist.now None c.in_ok-wiring.wiring c.args.fanout (wired_of c.args.netlist.now)
    c.in_ok-with_gates.field-0 k.built c.in_ok-with_gates.ensures.gated c.in_ok-with_gates.ensures.sound

pub returns-then-not-is_crowded-clause-right : goal.returns-then-not-is_crowded-clause-right
returns-then-not-is_crowded-clause-right c =
    c.stays_right_law.ensures false c.args.netlist.now c.args.library.now c.args.fanout c.in_ok-with_gates.field-0 c.cells-cells.ensures.checked
    c.in_ok-wiring.ensures.sound c.in_ok-with_gates.ensures.sound c.requires.cells (returns-then-not-is_crowded-clause-buffered c)

pub returns-then-not-is_crowded-clause-cells : goal.returns-then-not-is_crowded-clause-cells
returns-then-not-is_crowded-clause-cells c =
    let k = calm_then c in
    built_cells c.args.library.now c.args.netlist.now None c.in_ok-wiring.wiring c.args.fanout (wired_of c.args.netlist.now)
    c.in_ok-with_gates.field-0 k.built c.in_ok-with_gates.ensures.gated

pub returns-then-not-is_crowded-clause-few : goal.returns-then-not-is_crowded-clause-few
returns-then-not-is_crowded-clause-few c = λ four.
    start_few c.args.library.now c.args.netlist.now c.in_ok-wiring.wiring c.in_ok-with_gates.field-0 c.in_ok-with_gates.ensures.gated

pub returns-then-not-is_crowded-clause-covered : goal.returns-then-not-is_crowded-clause-covered
returns-then-not-is_crowded-clause-covered c = λ over lacks. let k = calm_then c in k.not_crowded over

pub with_gates-requires-in-Some : goal.with_gates-requires-in-Some
with_gates-requires-in-Some c =
    let k =
    repeated c.texts_are_free.ensures.free c.args.library.now c.args.netlist.now c.args.fanout c.requires.size c.in_ok-wiring.ensures.sound
    c.requires.cells c.requires.room c.cells-cells.result.now c.cells-cells.ensures.value c.cells-cells.ensures.checked c.in_ok-found.field-0
    c.in-Some.found c.in-Some.is c.in_ok-found.ensures.found c.in_ok-wiring.wiring c.limit_all.new.self c.in_ok-wiring.ensures.start
    c.in_ok-loads.loads.items c.deref-in-Some.result.now c.in_ok-loads.ensures c.deref-in-Some.ensures.value c.in_ok-limit_all-in-Some.ensures in
    built_gatable c.args.library.now c.args.netlist.now (Some c.in-Some.found) c.limit_all.new.self c.args.fanout k.done.wired k.done.built

pub returns-in_ok-with_gates-in-Some-clause-buffered : goal.returns-in_ok-with_gates-in-Some-clause-buffered
returns-in_ok-with_gates-in-Some-clause-buffered c =
    let k = repeated_then c in
    limited_buffered c.args.library.now c.args.netlist.now c.in-Some.found c.limit_all.new.self c.args.fanout k.b
    c.in_ok-with_gates-in-Some.field-0 k.rep k.done c.in_ok-with_gates-in-Some.ensures.gated

pub returns-in_ok-with_gates-in-Some-clause-fanout : goal.returns-in_ok-with_gates-in-Some-clause-fanout
returns-in_ok-with_gates-in-Some-clause-fanout c =
    let k = repeated_then c in
    built_fanout c.args.library.now c.args.netlist.now (Some c.in-Some.found) c.limit_all.new.self c.args.fanout k.done.wired
    c.in_ok-with_gates-in-Some.field-0 k.done.built c.in_ok-with_gates-in-Some.ensures.gated c.in_ok-with_gates-in-Some.ensures.sound

pub returns-in_ok-with_gates-in-Some-clause-right : goal.returns-in_ok-with_gates-in-Some-clause-right
returns-in_ok-with_gates-in-Some-clause-right c =
    c.stays_right_law.ensures false c.args.netlist.now c.args.library.now c.args.fanout c.in_ok-with_gates-in-Some.field-0 c.cells-cells.ensures.checked
    c.in_ok-wiring.ensures.sound c.in_ok-with_gates-in-Some.ensures.sound c.requires.cells (returns-in_ok-with_gates-in-Some-clause-buffered c)

pub returns-in_ok-with_gates-in-Some-clause-cells : goal.returns-in_ok-with_gates-in-Some-clause-cells
returns-in_ok-with_gates-in-Some-clause-cells c =
    let k = repeated_then c in
    built_cells c.args.library.now c.args.netlist.now (Some c.in-Some.found) c.limit_all.new.self c.args.fanout k.done.wired
    c.in_ok-with_gates-in-Some.field-0 k.done.built c.in_ok-with_gates-in-Some.ensures.gated

pub returns-in_ok-with_gates-in-Some-clause-few : goal.returns-in_ok-with_gates-in-Some-clause-few
returns-in_ok-with_gates-in-Some-clause-few c =
    let k = repeated_then c in
    limited_few c.args.library.now c.args.netlist.now c.in-Some.found c.limit_all.new.self c.args.fanout k.b c.in_ok-with_gates-in-Some.field-0 k.done
    c.in_ok-with_gates-in-Some.ensures.gated

pub returns-in_ok-with_gates-in-Some-clause-covered : goal.returns-in_ok-with_gates-in-Some-clause-covered
returns-in_ok-with_gates-in-Some-clause-covered c = λ over lacks. let k = repeated_then c in not_none c.args.library.now.cells k.b k.rep lacks

pub returns-in-None-clause-refused : goal.returns-in-None-clause-refused
returns-in-None-clause-refused c = (
  crowded c.args.library.now c.args.netlist.now c.in_ok-wiring.wiring c.args.fanout c.in_ok-wiring.ensures.sound c.in_ok-wiring.ensures.start c.in_ok-loads.loads.items
      c.deref.result.now c.in_ok-loads.ensures
      c.deref.ensures.value c.is_crowded.result c.if-not-is_crowded.false c.is_crowded.ensures,
  lacking c.args.library.now c.cells-cells.result.now c.cells-cells.ensures.value c.in_ok-found.field-0 c.in-None.is c.in_ok-found.ensures.none,
)
