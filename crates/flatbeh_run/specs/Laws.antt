-- What follows of a machine that `flatbeh` writes.
use Rattle.std.specs.Prelude.{◌≡◌, ℕ, ◌<◌, ◌^◌, true, false, List, length, IfSome}
use Rattle.vlsi_base.specs.declared.fault.ReadError.{ReadError}
use Rattle.vlsi_base.specs.declared.fault.ReadError.TheVariants as errors
use Rattle.machine_core.specs.Machine.{Machine}
use Rattle.machine_core.specs.Alike.{IsAlike}
use Rattle.vbe_print.specs.Said.{IsWithinLimits}
use Rattle.vbe_io.specs.Text.{IsVbe, IsVbeRefusal}
use Rattle.flatbeh_run.specs.declared.words.FlatbehCommand.{FlatbehCommand}
use Rattle.tool_drive.specs.declared.tool.Product.{Product}
use Rattle.net_core.specs.declared.pins.ModelPins.{ModelPins}
use Rattle.net_core.specs.Netlist.{Netlist}
use Rattle.cell_model.specs.Library.{Library}
use Rattle.cell_lib.specs.Library.{IsLibraryOf}
use Rattle.cell_pins.specs.Table.{IsTableOf}
use Rattle.net_right.specs.Condition.{MeetsCondition}
use Rattle.net_machine.specs.Bits.{bits_of}
use Rattle.vst_io.specs.Text.{IsVst}
use Rattle.net_flat.specs.Flat.{IsPlain, HasWords}
use Rattle.flatbeh_run.specs.Flatbeh.{IsFlattening}

-- a netlist that is read has the words that a data-flow text of it needs
abbrev pub NetlistHasWords : Type 0
NetlistHasWords = (bytes : List ℕ) (table : List ModelPins) (n : Netlist) → IsVst bytes table n → HasWords n

-- The machine of a netlist has fewer than 2^31 bits, and so has it ports.
pub record HasFewBits (n : Netlist) (l : Library) : Type 0 where
  pub bits : bits_of n l < 2 ^ 31
  pub ports : length n.ports < 2 ^ 31

-- so it is with a netlist that is read, each of whose instances is a gate or a plain flip-flop
abbrev pub NetlistHasFewBits : Type 0
NetlistHasFewBits =
    (catal source : List ℕ) (files : List (List ℕ)) (l : Library) (table : List ModelPins) (n : Netlist) → IsLibraryOf false catal files l
    → IsTableOf l true table → IsVst source table n → MeetsCondition table n → IsPlain n l → HasFewBits n l

-- what these bytes are read as is alike the machine, and they are refused only where memory has run out
pub record AreReadAs (m : Machine) (bytes : List ℕ) : Type 0 where
  pub is : (k : Machine) → IsVbe bytes k → IsAlike m k
  pub accepted : (e : ReadError) → IsVbeRefusal bytes e → e ≡ errors.Memory

-- Where the machine is within the limits of texts, the file that is written is read again as a machine that does the same: from the
-- same contents of the registers of the same names, and so of the instances, it shows the same and loads the same as the netlist.
abbrev pub FlatteningIsRead : Type 0
FlatteningIsRead =
    (c : FlatbehCommand) (source catal : List ℕ) (cells : List (List ℕ)) (p : Product) (h : IsFlattening c source catal cells p)
    → IsWithinLimits h.m → IfSome p.file (AreReadAs h.m)
