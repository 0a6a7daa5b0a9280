use Rattle.std.proofs.Common.{subst}
use Rattle.loon_fanout.specs.Limited.{IsBufferRefusal}
use Rattle.loon_drive.specs.Driven.{most_sinks}
use Rattle.flow_netlist.proofs.Mapped.{of_cells, is_tied, can_be_timed, has_room, repeats}
use Rattle.flow_netlist.proofs.netlist.driven_netlist_of.Goals as goal

pub drive_netlist-requires-clause-cells : goal.drive_netlist-requires-clause-cells
drive_netlist-requires-clause-cells c = of_cells c.args.library.now c.args.machine.now c.in_ok-netlist.netlist c.in_ok-netlist.ensures c.name.ensures.checked

pub drive_netlist-requires-clause-tied : goal.drive_netlist-requires-clause-tied
drive_netlist-requires-clause-tied c =
    let t = c.libraries_have_tables.ensures c.args.library.now c.cells.ensures.checked in
    is_tied c.args.library.now c.args.machine.now c.in_ok-netlist.netlist c.in_ok-netlist.ensures t.table t.listed t.sound

pub drive_netlist-requires-clause-timed : goal.drive_netlist-requires-clause-timed
drive_netlist-requires-clause-timed c =
    let t = c.libraries_have_tables.ensures c.args.library.now c.cells.ensures.checked in
    can_be_timed c.args.library.now c.args.machine.now c.in_ok-netlist.netlist c.in_ok-netlist.ensures c.name.ensures.checked t.table t.listed t.sound

pub drive_netlist-requires-clause-room : goal.drive_netlist-requires-clause-room
drive_netlist-requires-clause-room c =
    has_room c.args.library.now c.args.machine.now c.in_ok-netlist.netlist c.in_ok-netlist.ensures c.requires.ports c.requires.small

pub unreachable-requires : goal.unreachable-requires
unreachable-requires c =
    let refused =
    subst (λ e. IsBufferRefusal c.in_ok-netlist.netlist c.args.library.now (most_sinks c.args.fanout) e) c.in-Err-NoBuffer.field-0-is c.in-Err-NoBuffer.ensures.refused in
    repeats c.args.library.now c.args.machine.now c.in_ok-netlist.netlist c.in_ok-netlist.ensures refused.1
