-- When a netlist in memory is right for a machine.
use Rattle.std.specs.Prelude.{◌≡◌, false, Some}
use Rattle.vlsi_base.specs.Names.{vdd, vss}
use Rattle.machine_core.specs.Machine.{Machine, names_of}
use Rattle.machine_core.specs.Checked.{IsChecked}
use Rattle.cell_model.specs.Cell.{Cell}
use Rattle.cell_model.specs.Library.{Library, cell_of}
use Rattle.cell_checks.specs.Checked.{IsChecked as HasPassed}
use Rattle.cell_pins.specs.Pins.{with_supply, all_ports}
use Rattle.net_core.specs.Netlist.{Instance, Netlist as InMemory, IsNetlist}
use Rattle.net_core.specs.Places.{IsThere}
use Rattle.net_theory.specs.Sources.{Values, Roots, Sourced, Shows}
use Rattle.net_theory.specs.Meaning.{Means}
use Rattle.net_right.specs.View.{IsSeenAs}
use Rattle.net_right.specs.Condition.{MeetsConditionIn}

-- Its name is the machine's, and its ports are those of the machine with vdd and vss. Each class has a source and each
-- instance computes its node from earlier ones, and the nodes have the meaning of the machine: so the netlist is well formed for the
-- machine and behaves as it does.
pub record IsRightNetlist (n : InMemory) (l : Library) (m : Machine) : Type 0 where
  pub name : n.name ≡ m.name
  pub ports : n.ports ≡ with_supply vss (with_supply vdd m.ports)
  pub sourced : Sourced
  pub seen : IsSeenAs n sourced.netlist
  pub values : Values
  pub roots : Roots
  pub shows : Shows sourced l m values roots
  pub means : Means m values roots

-- each instance has the pins of its cell, with vdd and vss, in the order of names
abbrev pub HasPinsOfCells : InMemory → Library → Type 0
HasPinsOfCells n l = (i : Instance) (c : Cell) → IsThere n.instances i → cell_of l i.model ≡ Some c → i.pins ≡ names_of (all_ports c)

-- a right netlist whose instances have the pins of their cells meets the condition of the stages behind
abbrev pub RightMeetsCondition : Type 0
RightMeetsCondition =
    (n : InMemory) (l : Library) (m : Machine) → IsNetlist n → IsChecked m → HasPassed false l → IsRightNetlist n l m → HasPinsOfCells n l
    → MeetsConditionIn l n
