-- How many names a machine has that is read.
use Rattle.std.specs.Prelude.{ℕ, ◌+◌, ◌<◌, ◌^◌, List, length}
use Rattle.machine_core.specs.Machine.{Machine}
use Rattle.vbe_io.specs.Text.{IsVbe}

-- The names and ports of a machine that is read have numbers of 22 bits.
abbrev pub SourceHasFewNames : Type 0
SourceHasFewNames = (source : List ℕ) (m : Machine) → IsVbe source m → length m.vars + length m.ports < 2 ^ 22
