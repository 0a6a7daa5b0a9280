-- What is true of state machines whose outputs are left free in part.
use Rattle.std.specs.Prelude.{◌≡◌, ◌↔◌, ℕ, ◌<◌, Bool, List, length, Option}
use Rattle.machine_core.specs.Machine.{Machine}
use Rattle.machine_free.specs.Free.{AreFree}
use Rattle.fsm_machine.specs.Fsm.{Fsm, walked_next, FsmRun}
use Rattle.fsm_machine.specs.Codes.{Codes, AreCodes}
use Rattle.fsm_core.specs.Checked.{IsCheckedFsm}
use Rattle.syf_encode.specs.declared.style.Style.{Style}
use Rattle.syf_encode.specs.Codes.{codes_by}
use Rattle.syf_machine.specs.Named.{HasFewSignals, IsMachineOf}
use Rattle.state_free.specs.Free.{AreFreeFsm}
use Rattle.state_free.specs.Runs.{FreeFsmRun}
use Rattle.state_free.specs.Meaning.{MayDoAs}

-- the machines of the two by one encoding leave the same outputs free
abbrev pub MachinesAreFree : Type 0
MachinesAreFree =
    (low high : Fsm) (c : Codes) (m k : Machine) → IsCheckedFsm low → AreCodes (length low.states) c → AreFreeFsm low high
    → IsMachineOf low c m → IsMachineOf high c k → AreFree m k

-- and may do what the state machine may do
abbrev pub MachinesMayDoAs : Type 0
MachinesMayDoAs =
    (low high : Fsm) (c : Codes) (m k : Machine) → IsCheckedFsm low → AreCodes (length low.states) c → AreFreeFsm low high
    → IsMachineOf low c m → IsMachineOf high c k → MayDoAs low high c m k

-- where nothing is left free, both are one, and it may do what it does
abbrev pub NothingFreeInStates : Type 0
NothingFreeInStates = (f : Fsm) (s : ℕ) (v y : List (List Bool)) → FreeFsmRun f f s v y ↔ FsmRun f s v y

-- the runs of the one and of the other are runs of what is left free
abbrev pub BothMayRun : Type 0
BothMayRun = (low high : Fsm) (s : ℕ) (v y : List (List Bool)) → AreFreeFsm low high
    → (FsmRun low s v y → FreeFsmRun low high s v y) × (FsmRun high s v y → FreeFsmRun low high s v y)

-- from each state there is a run under all vectors
abbrev pub FreeRunsExist : Type 0
FreeRunsExist = (low high : Fsm) (s : ℕ) (v : List (List Bool)) → IsCheckedFsm low → AreFreeFsm low high → s < length low.states
    → (y : List (List Bool)) × FreeFsmRun low high s v y

-- both lead to the same states, with a state or with none
abbrev pub BothWalkAlike : Type 0
BothWalkAlike = (low high : Fsm) (i : List Bool) (st : Option ℕ) → AreFreeFsm low high → walked_next high i st ≡ walked_next low i st

-- each encoding gives both the same codes
abbrev pub SameCodes : Type 0
SameCodes = (style : Style) (low high : Fsm) → AreFreeFsm low high → codes_by style high ≡ codes_by style low

-- where the one has passed its checks, so has the other, and their signals are as many
abbrev pub BothAreChecked : Type 0
BothAreChecked = (low high : Fsm) → AreFreeFsm low high
    → (IsCheckedFsm low → IsCheckedFsm high) × ((c : Codes) → HasFewSignals low c → HasFewSignals high c)
