use Rattle.std.proofs.Common.{false, refl, arith}
use Rattle.flow_run.specs.View.{origin_view}
use Rattle.flow_run.specs.Route.{rows_asked}
use Rattle.flow_run.proofs.Drawing.{drawable}
use Rattle.flow_run.proofs.RowDrawing.{row_layout, stuck_layout, stuck_or_memory}
use Rattle.flow_run.proofs.row_layout.row_product.Goals as goal

pub place-requires-clause-netlist : goal.place-requires-clause-netlist
place-requires-clause-netlist c =
    drawable c.right_may_be_drawn.ensures c.libraries_have_tables.ensures false c.args.library.now (origin_view c.args.counted.now.source.origin) c.args.counted.now.source.machine
    c.args.counted.now.fanout c.args.driven.now.netlist c.args.driven.now.delay c.cells.ensures.checked c.requires.netlist

pub row_text-written-requires-clause-few : goal.row_text-written-requires-clause-few
row_text-written-requires-clause-few c =
    let soon = c.requires.netlist.soon in
    let ports = soon.ports in
    c.grids_are_small.ensures c.args.library.now c.args.driven.now.netlist c.in_ok-placement.placement c.args.command.now.metals c.in_ok-placement.ensures.placed
    c.in_ok-placement.ensures.even soon.few.instances (omega (arith, ports)) c.requires.bounds.metals.1

pub returns-in-Err-clause-stuck : goal.returns-in-Err-clause-stuck
returns-in-Err-clause-stuck c =
    let l = c.args.library.now in
    let n = c.args.driven.now.netlist in
    let o = origin_view c.args.counted.now.source.origin in
    let m = c.args.counted.now.source.machine in
    let p = c.in_ok-placement.placement in
    let a = rows_asked c.args.command.now in
    let many = c.count.ensures in
    stuck_or_memory l n p c.args.command.now.out o m c.args.counted.now.fanout a c.in-Err.none c.refusal.result
    (λ net terminal bytes t.
    stuck_layout c.right_is_well_formed.ensures.known c.marked_drawing_can_be_written.ensures c.lines_are_read_again.ensures c.alike_law.ensures.runs c.alike_law.ensures.both_ways
    c.driven_netlist_law.ensures.good c.placements_are_in_rows.ensures c.routes_keep_nets.ensures c.marked_routes_keep_nets.ensures c.marks_tell_nets.ensures l o m
    c.args.counted.now.fanout n c.args.driven.now.delay p a net terminal bytes c.cells.ensures.checked c.requires.netlist (omega (arith, many))
    c.in_ok-placement.ensures.placed c.in_ok-placement.ensures.good c.requires.bounds.metals.1 t) c.in-Err.ensures.none c.refusal.ensures

pub returns-clause-drawn : goal.returns-clause-drawn
returns-clause-drawn c =
    let l = c.args.library.now in
    let n = c.args.driven.now.netlist in
    let o = origin_view c.args.counted.now.source.origin in
    let m = c.args.counted.now.source.machine in
    let p = c.in_ok-placement.placement in
    let a = rows_asked c.args.command.now in
    record {
      bytes = c.in-Ok.file;
      name = c.in_ok-name.ensures;
      file = refl;
      right = row_layout c.right_is_well_formed.ensures.known c.right_grid_drawings_are_right.ensures c.grid_drawing_can_be_written.ensures c.lines_are_read_again.ensures
          c.alike_law.ensures.runs c.alike_law.ensures.both_ways c.driven_netlist_law.ensures.good c.placements_are_in_rows.ensures l o m c.args.counted.now.fanout n
          c.args.driven.now.delay p a c.in-Ok.file c.half_perimeter-wire.result c.args.counted.now.nodes c.in_ok-text.text c.cells.ensures.checked c.requires.netlist
          c.in_ok-placement.ensures.placed c.in_ok-placement.ensures.good c.requires.bounds.metals.1 c.in-Ok.ensures.text
          (λ k seen. c.half_perimeter-wire.ensures.rows n k c.in_ok-placement.ensures.placed seen) c.requires.nodes c.in_ok-text.ensures;
    }
