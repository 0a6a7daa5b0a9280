use Rattle.std.proofs.Common.{ℕ, List, ◌++◌, ap, ◌∙◌}
use Rattle.flow_run.specs.View.{origin_view}
use Rattle.flow_run.specs.Report.{source_line, held_lines}
use Rattle.flow_run.proofs.report.head.Goals as goal

pub returns : goal.returns
returns c =
    let m = c.args.source.now.machine in
    let o = origin_view c.args.source.now.origin in
    c.in_ok-held_lines.ensures ∙ ap (λ (out : List ℕ). out ++ held_lines o m) (c.in_ok-out.ensures ∙ ap source_line c.name.ensures.value)
