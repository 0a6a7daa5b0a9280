-- How many signals a state machine has that is read.
use Rattle.std.specs.Prelude.{ℕ, ◌*◌, ◌≤◌, List, length}
use Rattle.vlsi_base.specs.declared.limits.TheConstants.{MOST_SOURCE_BYTES}
use Rattle.fsm_machine.specs.Fsm.{Fsm}
use Rattle.fsm_machine.specs.Codes.{Codes, AreCodes}
use Rattle.fsm_machine.specs.Signals.{signals}
use Rattle.fsm_io.specs.Text.{IsFsm}
use Rattle.syf_encode.specs.declared.style.Style.{Style}
use Rattle.syf_encode.specs.Codes.{codes_by}
use Rattle.syf_machine.specs.Named.{HasFewSignals}

-- The statements have at most two signals for each byte that a text may have.
abbrev pub StatementsAreFew : Type 0
StatementsAreFew = (bytes : List ℕ) (f : Fsm) → IsFsm bytes f → signals f.body ≤ 2 * MOST_SOURCE_BYTES

-- By codes with no more bits than there are states, its machine has few signals.
abbrev pub CodesAreFew : Type 0
CodesAreFew = (bytes : List ℕ) (f : Fsm) (c : Codes) → IsFsm bytes f → AreCodes (length f.states) c → c.width ≤ length f.states → HasFewSignals f c

-- The codes of each style are such codes.
abbrev pub StylesAreFew : Type 0
StylesAreFew = (bytes : List ℕ) (how : Style) (f : Fsm) → IsFsm bytes f → HasFewSignals f (codes_by how f)
