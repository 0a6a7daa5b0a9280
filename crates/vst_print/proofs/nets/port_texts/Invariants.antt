use Rattle.std.proofs.Common.{take}
use Rattle.vst_print.specs.Pieces.{AreTaken}
use Rattle.vst_print.proofs.nets.port_texts.Given as goal

abbrev pub invariant-loop-port : goal.invariant-loop-port
invariant-loop-port l = AreTaken (take l.port-index l.ports) l.taken
