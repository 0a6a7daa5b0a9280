-- What is read of state machines has names that can be written again.
use Rattle.std.specs.Prelude.{◌≡◌, ℕ, ◌^◌, ◌<◌, ◌≤◌, List, length, None, IfSome}
use Rattle.vlsi_base.specs.declared.name.Port.{Port}
use Rattle.vlsi_base.specs.Member.{In}
use Rattle.machine_core.specs.Machine.{Machine}
use Rattle.fsm_machine.specs.Fsm.{Fsm}
use Rattle.fsm_machine.specs.Codes.{Codes}
use Rattle.text_names.specs.Words.{IsIdentifier, ArePortsNamed}
use Rattle.fsm_io.specs.Text.{IsFsm}
use Rattle.syf_machine.specs.Named.{IsMachineOf}
use Rattle.vbe_print.specs.Writable.{CanBeVbe}

-- The name of a state machine that is read is an identifier, an entity can declare its ports, and its clock is a scalar.
pub record IsNamed (f : Fsm) : Type 0 where
  pub name : IsIdentifier f.name
  pub ports : ArePortsNamed f.ports
  pub clock : f.clock.bit ≡ None

abbrev pub FsmIsNamed : Type 0
FsmIsNamed = (bytes : List ℕ) (f : Fsm) → IsFsm bytes f → IsNamed f

-- The names of a state machine and of its ports have at most 64 bytes, and the numbers of its ports' bits 32 bits.
abbrev pub FsmIsShort : Type 0
FsmIsShort =
    (bytes : List ℕ) (f : Fsm) → IsFsm bytes f
    → (length f.name ≤ 64) × ((p : Port) → In p f.ports → (length p.name.text ≤ 64) × IfSome p.name.bit (λ k. k < 2 ^ 32))

-- So its machine can be written as a data-flow text.
abbrev pub MachineCanBeWritten : Type 0
MachineCanBeWritten = (bytes : List ℕ) (f : Fsm) (c : Codes) (m : Machine) → IsFsm bytes f → IsMachineOf f c m → CanBeVbe m
