use Rattle.std.proofs.Common.{Bool, List, length, ap, ◌∙◌, arith}
use Rattle.fmi_min.proofs.Telling.{marks_length}
use Rattle.fmi_min.proofs.minimal.minimise.Goals as goal

pub count-inputs-requires : goal.count-inputs-requires
count-inputs-requires c =
    let few = c.requires in
    let size = ap (λ (marks : List Bool). length marks) (c.as_slice.ensures ∙ c.in_ok-marks.ensures) ∙ marks_length c.args.machine.now in
    omega arith

pub table_of-requires-clause-ports : goal.table_of-requires-clause-ports
table_of-requires-clause-ports c =
    let few = c.requires in
    let size = ap (λ (marks : List Bool). length marks) (c.as_slice-2.ensures ∙ c.in_ok-marks.ensures) ∙ marks_length c.args.machine.now in
    omega arith
