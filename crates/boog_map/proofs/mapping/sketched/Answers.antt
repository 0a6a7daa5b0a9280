use Rattle.std.proofs.Common.{◌∙◌, ap, List}
use Rattle.vlsi_base.specs.declared.name.Port.{Port}
use Rattle.vlsi_base.specs.Names.{vdd, vss}
use Rattle.cell_pins.specs.Pins.{with_supply}
use Rattle.boog_map.proofs.MachinePorts.{supplied_few, supplied_outputs}
use Rattle.boog_map.proofs.mapping.sketched.Goals as goal

pub tied_ports-requires-clause-few : goal.tied_ports-requires-clause-few
tied_ports-requires-clause-few c =
    let all = c.deref.ensures.value ∙ c.in_ok-all.ensures ∙ ap (λ (ps : List Port). with_supply vss (with_supply vdd ps)) (c.as_slice.ensures ∙ c.ports.ensures.value) in
    supplied_few c.args.machine.now c.ports.ensures.checked c.requires.few c.deref.result.now all

pub tied_ports-requires-clause-outputs : goal.tied_ports-requires-clause-outputs
tied_ports-requires-clause-outputs c =
    let all = c.deref.ensures.value ∙ c.in_ok-all.ensures ∙ ap (λ (ps : List Port). with_supply vss (with_supply vdd ps)) (c.as_slice.ensures ∙ c.ports.ensures.value) in
    supplied_outputs c.args.machine.now c.ports.ensures.checked c.args.graph.now c.requires.graph c.deref.result.now c.outputs.result.now all c.outputs.ensures
