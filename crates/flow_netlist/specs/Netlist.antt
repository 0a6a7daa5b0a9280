-- A netlist for a machine, with buffers and drives.
use Rattle.std.specs.Prelude.{◌≡◌, ℕ}
use Rattle.machine_core.specs.Machine.{Machine}
use Rattle.cell_model.specs.Library.{Library}
use Rattle.net_core.specs.Netlist.{Netlist, IsNetlist}
use Rattle.net_meaning.specs.Netlist.{AbstractNetlist as Seen}
use Rattle.net_right.specs.View.{IsSeenAs}
use Rattle.net_right.specs.Right.{IsRightNetlist, HasPinsOfCells}
use Rattle.vlsi_base.specs.Names.{vdd, vss}
use Rattle.cell_pins.specs.Pins.{with_supply}
use Rattle.boog_run.specs.Boog.{IsNetlistFor}
use Rattle.delay_sta.specs.Paths.{IsWorst}
use Rattle.loon_buffer.specs.Drives.{IsDriven}
use Rattle.loon_fanout.specs.Limited.{IsOfCells, HasFanout, HasFewGates}
use Rattle.loon_drive.specs.Driven.{most_sinks, IsDrivenFrom}

-- The machine is mapped, and of that netlist comes this one, with at most so many sinks of a net, or 4 where that is less; its longest
-- path takes so many femtoseconds. It is right for the machine too.
pub record IsDrivenNetlist (l : Library) (m : Machine) (fanout : ℕ) (k : Netlist) (delay : ℕ) : Type 0 where
  pub n : Netlist
  pub mapped : IsNetlistFor l m n
  pub made : IsDrivenFrom n l fanout k delay
  pub sound : IsNetlist k
  pub cells : IsOfCells k l
  pub limited : HasFanout l (most_sinks fanout) k
  pub few : HasFewGates n l k
  pub right : IsRightNetlist k l m

-- Held in memory, with the machine's ports and for each instance the pins of its cell, the netlist's longest path takes so many
-- femtoseconds, and no exchange of one instance's cell for another drive of it makes that path shorter.
pub record IsDrivenAs (n : Seen) (l : Library) (m : Machine) (delay : ℕ) : Type 0 where
  pub held : Netlist
  pub sound : IsNetlist held
  pub ports : held.ports ≡ with_supply vss (with_supply vdd m.ports)
  pub seen : IsSeenAs held n
  pub pins : HasPinsOfCells held l
  pub worst : IsWorst held l delay
  pub driven : IsDriven held l
