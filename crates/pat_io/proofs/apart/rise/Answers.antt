use Rattle.std.proofs.Common.{arith}
use Rattle.pat_io.proofs.Rising.{distinct_references}
use Rattle.pat_io.proofs.apart.rise.Goals as goal

pub returns : goal.returns
returns c = λ t. distinct_references c.args.columns.now c.loop-k.k (omega arith) c.loop-k.invariant
