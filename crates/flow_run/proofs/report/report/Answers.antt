use Rattle.std.proofs.Common.{[], ◌∷◌, ◌++◌, codes, length, sym}
use Rattle.std.specs.Prelude.{◌-◌}
use Rattle.machine_core.specs.Size.{machine_size}
use Rattle.flow_run.specs.View.{origin_view}
use Rattle.tool_drive.specs.Lines.{count_line}
use Rattle.flow_run.specs.Report.{source_line, held_lines}
use Rattle.flow_run.proofs.Lines.{put_all_is}
use Rattle.flow_run.proofs.report.report.Goals as goal

pub returns : goal.returns
returns c =
    let o = origin_view c.args.counted.now.source.origin in
    let m = c.args.counted.now.source.machine in
    let n = c.args.driven.now.netlist in
    rw (sym c.from.ensures, c.in_ok-append.ensures.ok, c.in_ok-count_line-7.ensures, c.in_ok-count_line-6.ensures, c.in_ok-count_line-5.ensures, c.in_ok-count_line-4.ensures, c.in_ok-count_line-3.ensures, c.in_ok-count_line-2.ensures, c.in_ok-count_line.ensures, c.in_ok-out.ensures, c.size.ensures, c.cells.ensures, c.nets.ensures)
    (put_all_is [] (source_line m.name ∷ held_lines o m ∷ count_line (codes "size") (machine_size m) ∷ count_line (codes "nodes") c.from.result ∷ count_line (codes "cells") (length n.instances)
    ∷ count_line (codes "nets") (n.count - 2) ∷ count_line (codes "delay") c.args.driven.now.delay ∷ count_line (codes "length") c.args.wire ∷ count_line (codes "breaches") 0 ∷ (codes "accepted" ++ 10 ∷ []) ∷ []))
