use Rattle.std.proofs.Common.{sym, ◌∙◌}
use Rattle.net_core.specs.Frame.{instance_of}
use Rattle.loon_run.specs.Loon.{bare}
use Rattle.loon_run.proofs.Bare.{none_of, some_of, made_of}
use Rattle.loon_run.proofs.loon.driven.Goals as goal

pub returns-then-is_empty-clause-made : goal.returns-then-is_empty-clause-made
returns-then-is_empty-clause-made c =
    bare (none_of (instance_of c.args.netlist.models) c.nodes.result.now c.args.netlist.instances c.nodes.ensures.seen (sym c.is_empty.ensures ∙ c.if-is_empty.true))

pub drive_netlist-requires-clause-cells : goal.drive_netlist-requires-clause-cells
drive_netlist-requires-clause-cells c =
    let i = some_of (instance_of c.args.netlist.models) c.nodes.result.now c.args.netlist.instances c.nodes.ensures.seen (sym c.is_empty.ensures ∙ c.if-is_empty.false) in
    c.requires.drivable.cells i.0 i.1

pub returns-clause-made : goal.returns-clause-made
returns-clause-made c =
    let i = some_of (instance_of c.args.netlist.models) c.nodes.result.now c.args.netlist.instances c.nodes.ensures.seen (sym c.is_empty.ensures ∙ c.if-is_empty.false) in
    made_of c.drive_netlist.result c.args.netlist c.args.library.now c.args.fanout (c.requires.drivable.cells i.0 i.1)
    c.drive_netlist.ensures.driven c.drive_netlist.ensures.fanout
