use Rattle.std.proofs.Common.{rules, [], ◌≤◌, ◌+◌}
use Rattle.source_bits.proofs.Ranging.{nth_falls, nth_rises}
use Rattle.source_bits.proofs.ranges.bit_at.Goals as goal

pub overflow_sub-result : goal.overflow_sub-result
overflow_sub-result c = (nth_falls [] c.args.range c.in-Some.range c.args.k c.in-Some.is c.if-range.true c.requires).0

pub overflow_add-result : goal.overflow_add-result
overflow_add-result c =
    let within : c.in-Some.range.left + c.args.k ≤ c.in-Some.range.right = (nth_rises [] c.args.range c.in-Some.range c.args.k c.in-Some.is c.if-range.false c.requires).0 in
    search rules

pub returns-then-range : goal.returns-then-range
returns-then-range c = λ text. (nth_falls text c.args.range c.in-Some.range c.args.k c.in-Some.is c.if-range.true c.requires).1

pub returns-else-range : goal.returns-else-range
returns-else-range c = λ text. (nth_rises text c.args.range c.in-Some.range c.args.k c.in-Some.is c.if-range.false c.requires).1
