-- The laws: of one text, all machines are of one size, with the same parts, and do the same.
use Rattle.machine_core.specs.Machine.{Machine}
use Rattle.vbe_io.specs.Text.{IsVbe}
use Rattle.std.proofs.Common.{ℕ, List}
use Rattle.vbe_laws.specs.OneMachine.{MachinesWeighTheSame, MachinesHaveTheSameParts, MachinesHaveTheSameEquations, MachinesSettleTheSame, MachinesRunTheSame}
use Rattle.vbe_laws.proofs.Readings.{of_one_reading}
use Rattle.vbe_laws.proofs.Parts.{same_parts}
use Rattle.vbe_laws.proofs.Weights.{same_machine_size}
use Rattle.vbe_laws.proofs.Meaning.{AreTwoOf, has_all, settle_the_same, run_the_same}

two_of : (bytes : List ℕ) (m k : Machine) → (is : IsVbe bytes m) → IsVbe bytes k → AreTwoOf is.design m k
two_of bytes m k is of = record { first = is.machine; second = of_one_reading bytes m k is of }

pub machines_weigh_the_same : MachinesWeighTheSame
machines_weigh_the_same bytes m k is of = same_machine_size is.design m k is.machine (of_one_reading bytes m k is of)

pub machines_have_the_same_parts : MachinesHaveTheSameParts
machines_have_the_same_parts bytes m k is of = same_parts is.design m k is.machine (of_one_reading bytes m k is of)

pub machines_have_the_same_equations : MachinesHaveTheSameEquations
machines_have_the_same_equations bytes m k is of = has_all is.design m k (two_of bytes m k is of)

pub machines_settle_the_same : MachinesSettleTheSame
machines_settle_the_same bytes m k is of = settle_the_same is.design m k (two_of bytes m k is of)

pub machines_run_the_same : MachinesRunTheSame
machines_run_the_same bytes m k is of = run_the_same is.design m k (two_of bytes m k is of)
