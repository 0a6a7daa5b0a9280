use Rattle.std.proofs.Common.{ℕ, true, List, refl, sym, subst}
use Rattle.flow_run.specs.View.{origin_view}
use Rattle.flow_run.specs.Route.{on_tracks}
use Rattle.flow_run.specs.RightLayout.{IsRightLayout}
use Rattle.flow_run.proofs.Drawing.{drawable, right_layout}
use Rattle.flow_run.proofs.layout.track_product.Goals as goal

pub drawing-requires-clause-netlist : goal.drawing-requires-clause-netlist
drawing-requires-clause-netlist c =
    drawable c.right_may_be_drawn.ensures c.libraries_have_tables.ensures true c.args.library.now (origin_view c.args.counted.now.source.origin) c.args.counted.now.source.machine c.args.counted.now.fanout
    c.args.driven.now.netlist c.args.driven.now.delay c.cells.ensures.checked c.requires.netlist

pub returns : goal.returns
returns c =
    let l = c.args.library.now in
    let o = origin_view c.args.counted.now.source.origin in
    let m = c.args.counted.now.source.machine in
    let n = c.args.driven.now.netlist in
    let delay = c.args.driven.now.delay in
    let fanout = c.args.counted.now.fanout in
    record {
      bytes = c.in_ok-file.file;
      name = c.in_ok-name.ensures;
      file = refl;
      right = subst (λ (bytes : List ℕ). IsRightLayout bytes o m l fanout on_tracks c.in_ok-text.text) (sym c.in_ok-file.ensures)
          (right_layout c.right_is_well_formed.ensures.known c.right_drawings_are_right.ensures c.drawing_can_be_written.ensures c.written_is_read_again.ensures c.alike_law.ensures.runs c.alike_law.ensures.both_ways
          c.driven_netlist_law.ensures.good l o m fanout n delay c.in_ok-sheet.sheet.figure c.in_ok-sheet.sheet.wire c.args.counted.now.nodes c.in_ok-text.text c.cells.ensures.checked
          (drawable c.right_may_be_drawn.ensures c.libraries_have_tables.ensures true l o m fanout n delay c.cells.ensures.checked c.requires.netlist) c.requires.netlist c.in_ok-sheet.ensures.figure
          c.in_ok-sheet.ensures.wire c.requires.nodes c.in_ok-text.ensures);
    }
