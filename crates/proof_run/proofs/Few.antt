-- The names of a machine that is read are few, also as it is compared.
use Rattle.std.proofs.Common.{ℕ, ◌+◌, ◌^◌, ◌<◌, ◌≤◌, List, length, arith}
use Rattle.machine_core.specs.Machine.{Machine}
use Rattle.vbe_io.specs.Text.{IsVbe}
use Rattle.proof_joint.specs.Clock.{as_compared}
use Rattle.proof_joint.proofs.Comparable.{few_more}

pub few_compared : (source : List ℕ) (m : Machine) → IsVbe source m → length m.vars + length m.ports < 2 ^ 22 → length (as_compared m).vars < 2 ^ 32
few_compared source m is few = let more = few_more m is.machine.checked.ordered in omega (arith, few, more)
