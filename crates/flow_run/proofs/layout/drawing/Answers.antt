use Rattle.std.proofs.Common.{sym, ◌∙◌}
use Rattle.flow_run.proofs.layout.drawing.Goals as goal

pub returns-clause-wire : goal.returns-clause-wire
returns-clause-wire c = λ k seen. c.half_perimeter-wire.ensures.tracks c.args.netlist.now k c.in_ok-placement.ensures seen

pub unreachable-requires : goal.unreachable-requires
unreachable-requires c =
    let free = c.columns_are_free.ensures c.args.library.now c.args.netlist.now c.in-Err-NoColumn.field-0 c.requires.passed c.requires.netlist c.in-Err-NoColumn.ensures.refused in
    let never = sym free ∙ c.in-Err-NoColumn.field-0-is in absurd (cc never)
