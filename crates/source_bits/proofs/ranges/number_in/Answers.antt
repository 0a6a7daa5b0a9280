use Rattle.std.proofs.Common.{rules, ◌≤◌, ◌+◌}
use Rattle.source_bits.proofs.Ranging.{first_and_offset}
use Rattle.source_bits.proofs.ranges.number_in.Goals as goal

pub overflow_add-result : goal.overflow_add-result
overflow_add-result c =
    let within : c.in-Some.declared.first + c.in-Some-offset.k ≤ c.args.total = first_and_offset c.args.total c.in-Some-offset.k c.args.declared c.in-Some.declared c.args.bit c.offset.result c.requires c.in-Some.is c.offset.ensures c.in-Some-offset.is in
    search rules
