-- What follows of texts that leave outputs free.
use Rattle.std.specs.Prelude.{ℕ, ◌+◌, ◌<◌, ◌≤◌, ◌^◌, List, length}
use Rattle.vlsi_base.specs.declared.fault.ReadError.{ReadError}
use Rattle.source_checks.specs.Checks.{most_ports}
use Rattle.machine_free.specs.declared.machine.FreeMachine.{FreeMachine}
use Rattle.vbe_free.specs.Text.{IsFreeVbe, RefusedFree}

-- The names and ports of a machine that is read have numbers of 22 bits. Those with each free bit 1 are the same.
abbrev pub FreeSourceHasFewNames : Type 0
FreeSourceHasFewNames = (bytes : List ℕ) (m : FreeMachine) → IsFreeVbe bytes m → length m.low.vars + length m.low.ports < 2 ^ 22

-- And it has at most as many port bits as a source may have.
abbrev pub FreeSourceHasFewPorts : Type 0
FreeSourceHasFewPorts = (bytes : List ℕ) (m : FreeMachine) → IsFreeVbe bytes m → length m.low.ports ≤ most_ports

-- A text that is such a machine has no refusal.
abbrev pub NeverBothFree : Type 0
NeverBothFree = (bytes : List ℕ) (m : FreeMachine) (e : ReadError) → IsFreeVbe bytes m → RefusedFree bytes e → ⊥
