-- What a netlist for a machine, with buffers and drives, is like.
use Rattle.std.specs.Prelude.{ℕ, ◌+◌, ◌≤◌, false, List, length}
use Rattle.machine_core.specs.Machine.{Machine}
use Rattle.machine_core.specs.Size.{machine_size}
use Rattle.machine_core.specs.Checked.{IsChecked}
use Rattle.source_checks.specs.Checks.{most_ports}
use Rattle.cell_model.specs.Library.{Library}
use Rattle.cell_checks.specs.Checked.{IsChecked as HasPassed}
use Rattle.cell_lib.specs.Library.{IsLibraryOf}
use Rattle.net_core.specs.Netlist.{Netlist}
use Rattle.net_meaning.specs.Netlist.{AbstractNetlist as Seen}
use Rattle.net_right.specs.View.{IsSeenAs}
use Rattle.net_right.specs.Right.{HasPinsOfCells}
use Rattle.net_right.specs.Writable.{CanBeNamed, HasShortNames}
use Rattle.net_meaning.specs.Order.{IsInNetlistOrder, IsLean}
use Rattle.net_tight.specs.Tight.{IsTight}
use Rattle.route_draw.specs.Law.{HasFewPins}
use Rattle.vbe_writable.specs.Declared.{CanBeDeclared}
use Rattle.tool_drive.specs.declared.size.TheConstants.{MOST_SIZE}
use Rattle.loon_fanout.specs.Nets.{HasFewInputs, FitsWithoutBuffers, HasNoBuffer}
use Rattle.loon_drive.specs.Driven.{most_sinks}
use Rattle.flow_netlist.specs.Netlist.{IsDrivenNetlist, IsDrivenAs}

-- As a netlist that layouts give: its instances stand in order; its gates are no more than the machine's size and two; few input pins read
-- each class but the clock's and the supplies'; it has no buffer at all where it would do without them, and where it has none, no usable
-- cell of the library could stand for two of its gates; and no exchange of one cell makes its longest path shorter.
pub record IsGoodNetlist (l : Library) (m : Machine) (fanout : ℕ) (y : Seen) (delay : ℕ) : Type 0 where
  pub order : (buffers : ℕ) × IsInNetlistOrder y l m buffers
  pub lean : IsLean y m
  pub inputs : HasFewInputs y l m (most_sinks fanout)
  pub buffers : FitsWithoutBuffers y l (most_sinks fanout) → HasNoBuffer y
  pub tight : HasNoBuffer y → IsTight y l
  pub driven : IsDrivenAs y l m delay

abbrev pub DrivenIsGood : Type 0
DrivenIsGood =
    (l : Library) (m : Machine) (fanout : ℕ) (k : Netlist) (delay : ℕ) (y : Seen) → HasPassed false l → IsChecked m
    → IsDrivenNetlist l m fanout k delay → IsSeenAs k y → IsGoodNetlist l m fanout y delay

-- it has the pins of its cells, names that can be written and are short, and few instances, pins and ports
pub record IsDrawableSoon (l : Library) (k : Netlist) : Type 0 where
  pub pins : HasPinsOfCells k l
  pub named : CanBeNamed k
  pub short : HasShortNames k
  pub few : HasFewPins k
  pub ports : length k.ports ≤ most_ports + 2

abbrev pub DrivenIsDrawable : Type 0
DrivenIsDrawable =
    (catal : List ℕ) (cells : List (List ℕ)) (l : Library) (m : Machine) (fanout : ℕ) (k : Netlist) (delay : ℕ)
    → IsLibraryOf false catal cells l → IsChecked m → CanBeDeclared m → machine_size m ≤ MOST_SIZE → IsDrivenNetlist l m fanout k delay
    → IsDrawableSoon l k
