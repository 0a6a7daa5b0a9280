use Rattle.std.proofs.Common.{arith}
use Rattle.source_bits.proofs.Ranging.{falls_in, falls_out, rises_in, rises_out}
use Rattle.source_bits.proofs.ranges.offset_in.Goals as goal

pub returns-then-bit-range : goal.returns-then-bit-range
returns-then-bit-range c = λ text. falls_out text c.args.range c.args.bit c.if-range.true (λ p q. omega arith)

pub returns-then-range-bit : goal.returns-then-range-bit
returns-then-range-bit c = λ text. falls_out text c.args.range c.args.bit c.if-range.true (λ p q. omega arith)

pub returns-else-range-bit : goal.returns-else-range-bit
returns-else-range-bit c = λ text. falls_in text c.args.range c.args.bit c.if-range.true c.if-bit-range.false c.if-range-bit.false

pub returns-then-bit-range-2 : goal.returns-then-bit-range-2
returns-then-bit-range-2 c = λ text. rises_out text c.args.range c.args.bit c.if-range.false (λ p q. omega arith)

pub returns-then-range-bit-2 : goal.returns-then-range-bit-2
returns-then-range-bit-2 c = λ text. rises_out text c.args.range c.args.bit c.if-range.false (λ p q. omega arith)

pub returns-else-range-bit-2 : goal.returns-else-range-bit-2
returns-else-range-bit-2 c = λ text. rises_in text c.args.range c.args.bit c.if-range.false c.if-bit-range-2.false c.if-range-bit-2.false
