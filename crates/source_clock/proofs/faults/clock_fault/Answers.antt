use Rattle.std.specs.Option.{option_copied}
use Rattle.source_clock.proofs.Texts.{all_lines_in}
use Rattle.source_clock.proofs.faults.clock_fault.Goals as goal

pub returns : goal.returns
returns c =
    all_lines_in c.args.design.now c.args.table.now c.as_slice-statements.result.now (option_copied c.in_ok-clock.clock) c.statements_fault.result c.requires c.as_slice-statements.ensures c.in_ok-clock.ensures c.statements_fault.ensures
