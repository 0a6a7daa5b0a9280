use Rattle.flatbeh_run.proofs.FewBits.{few_bits}
use Rattle.flatbeh_run.proofs.laws.netlist_has_few_bits.Goals as goal

pub returns : goal.returns
returns c = few_bits c.library_law.ensures.passes c.texts_have_room.ensures.instances c.texts_have_room.ensures.ports
