use Rattle.vbe_roots.proofs.Same.{machines_have_the_same_roots, machines_have_the_same_dags, machines_count_the_same, machines_are_within_the_same, inner_signals_weigh_the_same}
use Rattle.vbe_roots.proofs.law.roots_are_the_same.Goals as goal

pub returns-clause-roots : goal.returns-clause-roots
returns-clause-roots c = machines_have_the_same_roots c.machines_are_the_same.ensures.parts

pub returns-clause-dags : goal.returns-clause-dags
returns-clause-dags c = machines_have_the_same_dags c.machines_are_the_same.ensures.parts

pub returns-clause-counts : goal.returns-clause-counts
returns-clause-counts c = machines_count_the_same c.machines_are_the_same.ensures.parts

pub returns-clause-within : goal.returns-clause-within
returns-clause-within c = machines_are_within_the_same c.machines_are_the_same.ensures.parts

pub returns-clause-inner : goal.returns-clause-inner
returns-clause-inner c = inner_signals_weigh_the_same c.machines_are_the_same.ensures.parts
