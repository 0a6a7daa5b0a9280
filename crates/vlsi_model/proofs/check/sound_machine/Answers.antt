use Rattle.vlsi_model.proofs.SourceBits.{sound}
use Rattle.vlsi_model.proofs.Stages.{no_fault}
use Rattle.vlsi_model.proofs.check.sound_machine.Goals as goal

pub elaborated-requires-clause-different : goal.elaborated-requires-clause-different
elaborated-requires-clause-different c = (sound c.args.design.now c.requires.sound).different

pub elaborated-requires-clause-clocked : goal.elaborated-requires-clause-clocked
elaborated-requires-clause-clocked c = (no_fault c.args.design.now c.requires.sound).clock
