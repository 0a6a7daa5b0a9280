use Rattle.std.proofs.Common.{◌∙◌, ap, sym, subst, Bool, List, All, Option}
use Rattle.vlsi_base.specs.declared.name.Port.{Port}
use Rattle.vlsi_base.specs.Names.{vdd, vss}
use Rattle.vlsi_base.specs.Member.{In}
use Rattle.cell_model.specs.Usable.{IsFormed}
use Rattle.cell_model.specs.Connectors.{PinsAreConnectors}
use Rattle.cell_model.specs.Covering.{HasCellOf, needed}
use Rattle.cell_model.specs.Cell.{Cell}
use Rattle.cell_model.specs.Library.{Library}
use Rattle.gate_cells.specs.Listed.{AreGateCells}
use Rattle.cell_match.specs.declared.gate.Gate.{Gate}
use Rattle.cell_pins.specs.Pins.{with_supply}
use Rattle.cell_pins.proofs.Sound.{connected}
use Rattle.graph_theory.specs.Graph.{held_count}
use Rattle.boog_cover.specs.Covered.{IsCovered}
use Rattle.boog_map.specs.Netlist.{has_registers}
use Rattle.boog_map.specs.Tied.{gate_words}
use Rattle.boog_map.specs.Mapped.{root_numbers}
use Rattle.boog_map.proofs.Roles.{few_inputs, has_cells}
use Rattle.boog_map.proofs.Given.{ok_both, of_library, roles_of_library, lent_draw, lent_mapped}
use Rattle.boog_map.proofs.mapping.map_covered.Goals as goal

pub chosen_parts-requires-clause-formed : goal.chosen_parts-requires-clause-formed
chosen_parts-requires-clause-formed c = of_library c.cells.result.now c.args.library.now c.cells.ensures.value (All IsFormed) c.cells.ensures.checked.formed

pub chosen_parts-requires-clause-connectors : goal.chosen_parts-requires-clause-connectors
chosen_parts-requires-clause-connectors c =
    of_library c.cells.result.now c.args.library.now c.cells.ensures.value (All PinsAreConnectors) (connected c.args.library.now c.cells.ensures.checked)

pub chosen_parts-requires-clause-there : goal.chosen_parts-requires-clause-there
chosen_parts-requires-clause-there c k h =
    of_library c.cells.result.now c.args.library.now c.cells.ensures.value (λ (cs : List Cell). HasCellOf cs k)
    (c.requires.covered k (subst (λ (b : Bool). In k (needed b)) c.has_registers.ensures h))

pub chosen_parts-requires-clause-gates : goal.chosen_parts-requires-clause-gates
chosen_parts-requires-clause-gates c =
    subst (λ (l : Library). AreGateCells l c.in_ok-cells.cells) (sym c.cells.ensures.value) c.in_ok-cells.ensures

pub covering-requires-clause-inputs : goal.covering-requires-clause-inputs
covering-requires-clause-inputs c =
    few_inputs c.args.library.now.cells (has_registers c.args.machine.now) c.in_ok-parts.parts
    (roles_of_library c.cells.result.now c.args.library.now c.args.machine.now c.has_registers.result c.in_ok-parts.parts c.cells.ensures.value c.has_registers.ensures c.in_ok-parts.ensures)

pub covering-requires-clause-has : goal.covering-requires-clause-has
covering-requires-clause-has c =
    has_cells c.args.library.now.cells (has_registers c.args.machine.now) c.in_ok-parts.parts
    (roles_of_library c.cells.result.now c.args.library.now c.args.machine.now c.has_registers.result c.in_ok-parts.parts c.cells.ensures.value c.has_registers.ensures c.in_ok-parts.ensures)
    c.requires.covered

pub build-requires : goal.build-requires
build-requires c =
    let ports = c.new.ensures ∙ c.in_ok-ports.ensures ∙ ap (λ (ps : List Port). with_supply vss (with_supply vdd ps)) (c.as_slice.ensures ∙ c.ports.ensures.value) in
    let cov = subst (λ (gs : List (Option Gate)). IsCovered (gate_words c.in_ok-parts.parts) (held_count c.args.machine.now) c.args.graph.now.nodes (root_numbers c.args.graph.now) gs)
    (sym c.deref.ensures.value) c.in_ok-gates.ensures in
    lent_draw c.args.machine.now c.name.ensures.checked c.args.graph.now c.requires.graph c.args.library.now c.cells.ensures.checked c.requires.few c.in_ok-parts.parts
    (roles_of_library c.cells.result.now c.args.library.now c.args.machine.now c.has_registers.result c.in_ok-parts.parts c.cells.ensures.value c.has_registers.ensures c.in_ok-parts.ensures)
    c.deref.result.now cov c.in_ok-sketch.sketch c.in_ok-sketch.ensures c.new.result ports

pub returns : goal.returns
returns c =
    let ports = c.new.ensures ∙ c.in_ok-ports.ensures ∙ ap (λ (ps : List Port). with_supply vss (with_supply vdd ps)) (c.as_slice.ensures ∙ c.ports.ensures.value) in
    let cov = subst (λ (gs : List (Option Gate)). IsCovered (gate_words c.in_ok-parts.parts) (held_count c.args.machine.now) c.args.graph.now.nodes (root_numbers c.args.graph.now) gs)
    (sym c.deref.ensures.value) c.in_ok-gates.ensures in
    ok_both c.build.result
    (lent_mapped c.args.machine.now c.name.ensures.checked c.args.graph.now c.requires.graph c.args.library.now c.cells.ensures.checked c.requires.few c.in_ok-parts.parts
    (roles_of_library c.cells.result.now c.args.library.now c.args.machine.now c.has_registers.result c.in_ok-parts.parts c.cells.ensures.value c.has_registers.ensures c.in_ok-parts.ensures)
    c.deref.result.now cov c.in_ok-sketch.sketch c.in_ok-sketch.ensures c.new.result ports c.in_ok-name.name (c.in_ok-name.ensures ∙ c.name.ensures.value))
    c.build.ensures.finished c.build.ensures.sound
