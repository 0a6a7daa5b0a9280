-- What follows of a netlist that `boog` writes.
use Rattle.std.specs.Prelude.{ℕ, ◌+◌, ◌*◌, ◌≤◌, false, List, length, IfSome}
use Rattle.machine_core.specs.Machine.{Machine}
use Rattle.machine_core.specs.Size.{machine_size}
use Rattle.machine_core.specs.Checked.{IsChecked}
use Rattle.source_checks.specs.Checks.{most_ports}
use Rattle.vbe_io.specs.Text.{IsVbe}
use Rattle.cell_model.specs.Library.{Library}
use Rattle.cell_lib.specs.Library.{IsLibraryOf}
use Rattle.net_core.specs.Netlist.{Netlist}
use Rattle.net_meaning.specs.Netlist.{AbstractNetlist as Seen}
use Rattle.net_meaning.specs.Well.{IsWell}
use Rattle.net_meaning.specs.Agreement.{Agrees}
use Rattle.net_right.specs.View.{IsSeenAs}
use Rattle.net_right.specs.Writable.{HasShortNames}
use Rattle.net_tight.specs.Tight.{IsTight}
use Rattle.vst_print.specs.Says.{IsWithinLimits}
use Rattle.vst_print.specs.Text.{IsTextOf}
use Rattle.vbe_writable.specs.Declared.{CanBeDeclared}
use Rattle.boog_run.specs.declared.words.BoogCommand.{BoogCommand}
use Rattle.tool_drive.specs.declared.tool.Product.{Product}
use Rattle.boog_run.specs.Boog.{IsMapping, IsNetlistFor, IsWritable}
use Rattle.tool_drive.specs.declared.size.TheConstants.{MOST_SIZE}

-- As every netlist of a layout that it can be seen as, it is well formed for the source's machine and behaves as this does: from all
-- contents of its registers and for all vectors it runs in exactly one way, and from contents that match those of the machine's
-- registers its outputs are those of the machine.
abbrev pub MappingAgrees : Type 0
MappingAgrees =
    (c : BoogCommand) (source catal : List ℕ) (cells : List (List ℕ)) (p : Product) (h : IsMapping c source catal cells p)
    → (k : Seen) → IsSeenAs h.n k → IsWell k h.l h.m × Agrees k h.l h.m

-- As every netlist of a layout that it can be seen as, it is tight: where a gate's output is read by one pin alone, and by no port, no
-- usable cell of the library computes what this gate and its reader compute, from the same classes.
abbrev pub MappingIsTight : Type 0
MappingIsTight =
    (c : BoogCommand) (source catal : List ℕ) (cells : List (List ℕ)) (p : Product) (h : IsMapping c source catal cells p)
    → (k : Seen) → IsSeenAs h.n k → IsTight k h.l

-- Where names, numbers and declared bits are within the limits of texts, the file that is written is such a text of it.
abbrev pub MappingIsSaid : Type 0
MappingIsSaid =
    (c : BoogCommand) (source catal : List ℕ) (cells : List (List ℕ)) (p : Product) (h : IsMapping c source catal cells p)
    → IsWithinLimits h.n h.written.table → IfSome p.file (λ bytes. IsTextOf h.n h.written.table bytes)

-- ---- netlists of what is read, for the stages behind

-- The machine of a text is such a machine.
abbrev pub SourceCanBeDeclared : Type 0
SourceCanBeDeclared = (source : List ℕ) (m : Machine) → IsVbe source m → CanBeDeclared m

-- Nothing of its names stands against writing it.
abbrev pub NetlistIsWritable : Type 0
NetlistIsWritable =
    (catal : List ℕ) (cells : List (List ℕ)) (l : Library) (m : Machine) (n : Netlist)
    → IsLibraryOf false catal cells l → CanBeDeclared m → machine_size m ≤ MOST_SIZE → IsNetlistFor l m n → IsWritable l n

-- Its names have at most 64 bytes, and the numbers of its ports' bits 32 bits.
abbrev pub NetlistIsShort : Type 0
NetlistIsShort =
    (catal : List ℕ) (cells : List (List ℕ)) (l : Library) (m : Machine) (n : Netlist)
    → IsLibraryOf false catal cells l → CanBeDeclared m → machine_size m ≤ MOST_SIZE → IsNetlistFor l m n → HasShortNames n

-- It has at most twice as many instances as a source may weigh, and as ports those of the machine and the supplies.
abbrev pub NetlistIsSmall : Type 0
NetlistIsSmall =
    (l : Library) (m : Machine) (n : Netlist) → IsChecked m → CanBeDeclared m → machine_size m ≤ MOST_SIZE → IsNetlistFor l m n
    → (length n.instances ≤ 2 * MOST_SIZE) × (length n.ports ≤ most_ports + 2)
