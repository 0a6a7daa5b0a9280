use Rattle.std.proofs.Common.{rules, ◌≤◌, ◌∙◌, length, min, ap, sym}
use Rattle.pat_io.specs.PatternText.{first_line}
use Rattle.pat_io.proofs.Turns.{faults_past}
use Rattle.pat_io.proofs.widths.values_fault.Goals as goal

pub returns : goal.returns
returns c =
    let past : min (length c.args.columns.now) (length c.args.values.now) ≤ c.loop-k.k = search rules in
    sym (ap first_line (faults_past c.args.columns.now c.args.values.now c.loop-k.k past)) ∙ c.loop-k.invariant
