use Rattle.std.proofs.Common.{arith}
use Rattle.std.proofs.lemmas.Nat.{one_shl}
use Rattle.fmi_min.proofs.vectors.vector_count.Goals as goal

pub returns : goal.returns
returns c = let few = c.requires in one_shl c.args.inputs 32 (omega arith)
