use Rattle.flow_run.proofs.Circuits.{circuits_never}
use Rattle.flow_run.proofs.gen_run.circuit_law.Goals as goal

pub returns : goal.returns
returns c =
    circuits_never c.circuits_are_read_again.ensures c.never_both.ensures c.reading_law.ensures c.library_is_never_refused.ensures
    c.libraries_are_same.ensures.covers c.roots_are_the_same.ensures.within
