use Rattle.std.proofs.Common.{arith}
use Rattle.ocp_place.proofs.Reached.{nowhere}
use Rattle.ocp_place.proofs.reach.place_of.Goals as goal

pub returns : goal.returns
returns c = λ h. absurd (nowhere c.args.ports.now c.args.name.now c.loop-place.place (omega arith) c.loop-place.invariant h)
