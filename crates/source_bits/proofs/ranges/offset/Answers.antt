use Rattle.source_bits.proofs.Ranging.{moved, bitless}
use Rattle.source_bits.proofs.ranges.offset.Goals as goal

pub returns-in-Some-bit : goal.returns-in-Some-bit
returns-in-Some-bit c = λ text. moved text c.args.range c.args.bit c.in-Some.range c.in-Some-bit.bit c.offset_in.result c.in-Some.is c.in-Some-bit.is (c.offset_in.ensures text)

pub returns-in-None-bit : goal.returns-in-None-bit
returns-in-None-bit c = λ text. bitless text c.args.range c.args.bit c.in-Some.range c.in-Some.is c.in-None-bit.is
