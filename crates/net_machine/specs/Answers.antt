-- Why a netlist has no machine.
use Rattle.std.specs.Prelude.{◌≡◌, ℕ, ◌≤◌, ◌-◌, ◌^◌, min}
use Rattle.net_core.specs.Netlist.{Netlist as InMemory}
use Rattle.cell_model.specs.Library.{Library}
use Rattle.net_machine.specs.declared.error.NetMachineError.{NetMachineError}
use Rattle.net_machine.specs.declared.error.NetMachineError.TheVariants as error
use Rattle.net_machine.specs.Signals.{HasBehaviour, IsFirstOpaque}
use Rattle.net_machine.specs.Bits.{bits_of}

-- its machine has 2^32 bits or more; they are so many, or the greatest number of 64 bits where that is less
pub record HasTooManyBits (n : InMemory) (l : Library) (reached : ℕ) : Type 0 where
  pub many : 2 ^ 32 ≤ bits_of n l
  pub reached_is : reached ≡ min (bits_of n l) (2 ^ 64 - 1)

-- the first instance's cell that is opaque; where there is none, 2^32 bits or more; or memory has run out
abbrev pub IsMachineRefusal : InMemory → Library → NetMachineError → Type 0
IsMachineRefusal n l error.Memory = Unit {0}
IsMachineRefusal n l (error.NoBehaviour model) = IsFirstOpaque n l model
IsMachineRefusal n l (error.TooManyBits reached) = HasBehaviour n l × HasTooManyBits n l reached
