-- Each text has an answer. That none has two is said where texts are defined.
use Rattle.std.specs.Prelude.{◌⊎◌, ℕ, List}
use Rattle.vlsi_base.specs.declared.fault.ReadError.{ReadError}
use Rattle.fsm_machine.specs.Fsm.{Fsm}
use Rattle.fsm_io.specs.Text.{IsFsm, Refused}

-- Bytes are a text that is a state machine, or they have a refusal.
abbrev pub EachFsm : Type 0
EachFsm = (bytes : List ℕ) → ((f : Fsm) × IsFsm bytes f) ⊎ ((e : ReadError) × Refused bytes e)
