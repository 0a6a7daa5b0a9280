use Rattle.vst_room.proofs.Room.{few_instances, few_ports, few_pins}
use Rattle.vst_room.proofs.texts_have_room.Goals as goal

pub returns-clause-instances : goal.returns-clause-instances
returns-clause-instances c = few_instances

pub returns-clause-ports : goal.returns-clause-ports
returns-clause-ports c = few_ports

pub returns-clause-pins : goal.returns-clause-pins
returns-clause-pins c = few_pins
