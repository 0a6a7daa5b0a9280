use Rattle.nero_nets.proofs.Small.{grids_are_small}
use Rattle.nero_nets.proofs.law.grids_are_small.Goals as goal

pub returns : goal.returns
returns c = grids_are_small
