-- What the machine of a state machine does, whatever made it.
use Rattle.std.specs.Prelude.{length}
use Rattle.machine_core.specs.Machine.{Machine}
use Rattle.fsm_machine.specs.Fsm.{Fsm}
use Rattle.fsm_machine.specs.Codes.{Codes, AreCodes}
use Rattle.fsm_core.specs.Checked.{IsCheckedFsm}
use Rattle.syf_machine.specs.Named.{IsMachineOf}
use Rattle.syf_machine.specs.Meaning.{DoesAs}

abbrev pub MachineDoesAs : Type 0
MachineDoesAs = (f : Fsm) (c : Codes) (m : Machine) → IsCheckedFsm f → AreCodes (length f.states) c → IsMachineOf f c m → DoesAs f c m
