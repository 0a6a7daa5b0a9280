-- The laws: of one text, all machines have the same roots, with the same diagrams.
use Rattle.vbe_laws.specs.OneMachine.{MachinesHaveTheSameParts}
use Rattle.vbe_roots.specs.Law.{MachinesHaveTheSameRoots, MachinesHaveTheSameDags, MachinesCountTheSame, MachinesAreWithinTheSame, InnerSignalsWeighTheSame}
use Rattle.vbe_roots.proofs.Readings.{of_one}
use Rattle.vbe_roots.proofs.Rooting.{same_roots, same_dags, same_greatest, same_within}
use Rattle.vbe_roots.proofs.Weighing.{same_inner}

module _ (parts : MachinesHaveTheSameParts) where
  pub machines_have_the_same_roots : MachinesHaveTheSameRoots
  machines_have_the_same_roots bytes m k is of = same_roots m k (of_one parts bytes m k is of)

  pub machines_have_the_same_dags : MachinesHaveTheSameDags
  machines_have_the_same_dags bytes m k is of = same_dags m k (of_one parts bytes m k is of)

  pub machines_count_the_same : MachinesCountTheSame
  machines_count_the_same bytes m k is of = same_greatest m k (of_one parts bytes m k is of)

  pub machines_are_within_the_same : MachinesAreWithinTheSame
  machines_are_within_the_same bytes m k is of = same_within m k (of_one parts bytes m k is of)

  pub inner_signals_weigh_the_same : InnerSignalsWeighTheSame
  inner_signals_weigh_the_same bytes m k is of = same_inner m k (of_one parts bytes m k is of)
