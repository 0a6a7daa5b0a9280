-- The limit of a machine's size.
use Rattle.std.specs.Prelude.{ℕ, ◌-◌, ◌^◌, min}
use Rattle.vlsi_base.specs.declared.fault.LimitKind.TheVariants.{Size}
use Rattle.machine_core.specs.Machine.{Machine}
use Rattle.machine_core.specs.Size.{machine_size}
use Rattle.tool_drive.specs.declared.status.Status.{Status}
use Rattle.tool_drive.specs.declared.status.Status.TheVariants as status

-- how a machine that is too large is refused: with its size, or the greatest number of 64 bits where that is less
abbrev pub size_limit : Machine → Status
size_limit m = status.Limit (record { which = Size; reached = min (machine_size m) (2 ^ 64 - 1) })
