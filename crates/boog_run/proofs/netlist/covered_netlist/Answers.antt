use Rattle.boog_run.proofs.Sizes.{numberable, netlist_for}
use Rattle.boog_run.proofs.netlist.covered_netlist.Goals as goal

pub of_machine-requires : goal.of_machine-requires
of_machine-requires c = numberable c.args.machine.now c.requires.ports c.requires.small

pub returns : goal.returns
returns c =
    let m = c.in_ok-netlist.ensures in
    let condition =
    c.right_meets_condition.ensures c.in_ok-netlist.netlist c.args.library.now c.args.machine.now m.sound c.name.ensures.checked c.cells.ensures.checked m.right m.pins in
    netlist_for c.args.library.now c.args.machine.now c.in_ok-netlist.netlist c.in_ok-graph.graph c.in_ok-graph.ensures c.requires.covered condition m
