use Rattle.vbe_laws.proofs.Same.{machines_weigh_the_same, machines_have_the_same_parts}
use Rattle.vbe_laws.proofs.one_machine.machines_are_the_same.Goals as goal

pub returns-clause-size : goal.returns-clause-size
returns-clause-size c = machines_weigh_the_same

pub returns-clause-parts : goal.returns-clause-parts
returns-clause-parts c = machines_have_the_same_parts
