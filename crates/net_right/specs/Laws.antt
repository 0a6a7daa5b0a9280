-- What is true of netlists in memory that are seen as those of layouts.
use Rattle.std.specs.Prelude.{◌↔◌, Bool, List}
use Rattle.vlsi_base.specs.declared.name.Terminal.{Terminal}
use Rattle.machine_core.specs.Machine.{Machine}
use Rattle.machine_core.specs.Checked.{IsChecked}
use Rattle.net_core.specs.declared.pins.ModelPins.{ModelPins}
use Rattle.net_core.specs.Places.{IsThere}
use Rattle.net_core.specs.Netlist.{Netlist as InMemory, IsNetlist, terminals}
use Rattle.net_core.specs.Checks.{Fits}
use Rattle.cell_model.specs.Library.{Library}
use Rattle.cell_checks.specs.Checked.{IsChecked as HasPassed}
use Rattle.cell_pins.specs.Table.{IsTableOf}
use Rattle.net_meaning.specs.Netlist.{AbstractNetlist, IsTerminal}
use Rattle.net_meaning.specs.Well.{IsWell}
use Rattle.net_meaning.specs.Agreement.{Agrees}
use Rattle.net_right.specs.View.{IsSeenAs}
use Rattle.net_right.specs.Right.{IsRightNetlist, HasPinsOfCells}

-- As the netlist that its fields name, a right netlist is well formed for the machine and behaves as it does.
abbrev pub RightIsWellFormed : Type 0
RightIsWellFormed =
    (n : InMemory) (l : Library) (m : Machine) → IsChecked m → (right : IsRightNetlist n l m)
    → IsWell right.sourced.netlist l m × Agrees right.sourced.netlist l m

-- And so it is as every netlist that it can be seen as, where its instances have the pins of their cells.
abbrev pub SeenIsWellFormed : Type 0
SeenIsWellFormed =
    (n : InMemory) (l : Library) (m : Machine) (k : AbstractNetlist) → IsNetlist n → IsChecked m → IsRightNetlist n l m → HasPinsOfCells n l
    → IsSeenAs n k → IsWell k l m × Agrees k l m

-- Where a netlist fits the table of a checked library, the terminals of the netlist that it is seen as are its own.
abbrev pub TerminalsAreThere : Type 0
TerminalsAreThere =
    (n : InMemory) (l : Library) (tracks all : Bool) (table : List ModelPins) (k : AbstractNetlist)
    → Fits n table → IsTableOf l all table → HasPassed tracks l → IsSeenAs n k
    → (t : Terminal) → IsTerminal k l t ↔ IsThere (terminals n) t
