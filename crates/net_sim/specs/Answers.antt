-- Why patterns aren't filled in on a netlist.
use Rattle.std.specs.Prelude.{◌<◌, ◌^◌}
use Rattle.net_core.specs.Netlist.{Netlist as InMemory}
use Rattle.cell_model.specs.Library.{Library}
use Rattle.pat_meaning.specs.declared.patterns.Patterns.{Patterns}
use Rattle.net_machine.specs.Signals.{HasBehaviour, IsFirstOpaque}
use Rattle.net_machine.specs.Bits.{bits_of}
use Rattle.net_machine.specs.Answers.{HasTooManyBits}
use Rattle.net_sim.specs.Circuit.{DiffersWith}
use Rattle.net_sim.specs.declared.error.NetSimError.{NetSimError}
use Rattle.net_sim.specs.declared.error.NetSimError.TheVariants as error

-- a cell is opaque; or none is, and the bits are 2^32 or more; or fewer, and the patterns differ; or memory has run out
abbrev pub IsSimRefusal : InMemory → Library → Patterns → NetSimError → Type 0
IsSimRefusal n l p error.Memory = Unit {0}
IsSimRefusal n l p (error.NoBehaviour model) = IsFirstOpaque n l model
IsSimRefusal n l p (error.TooManyBits reached) = HasBehaviour n l × HasTooManyBits n l reached
IsSimRefusal n l p (error.Differs pattern bit) = HasBehaviour n l × (bits_of n l < 2 ^ 32) × DiffersWith n l p pattern bit
