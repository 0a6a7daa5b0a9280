use Rattle.std.proofs.Common.{arith}
use Rattle.pat_io.proofs.Rising.{distinct_none}
use Rattle.pat_io.proofs.apart.apart_count.Goals as goal

pub loop-beyond-init : goal.loop-beyond-init
loop-beyond-init c = (omega arith, omega arith, distinct_none)
