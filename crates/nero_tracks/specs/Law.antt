-- Each net has one track with its terminals.
use Rattle.std.specs.Prelude.{◌≡◌, ◌+◌, length, Some}
use Rattle.vlsi_base.specs.Member.{In}
use Rattle.cell_model.specs.Cell.{Cell}
use Rattle.cell_model.specs.Library.{Library, cell_of}
use Rattle.net_meaning.specs.Netlist.{Member, AbstractNetlist}
use Rattle.net_drawing.specs.Clean.{PinColumnsDiffer}
use Rattle.net_drawing.specs.Drawing.{IsDrawable, HasNumberedNets}
use Rattle.ocp_place.specs.Orderly.{IsOrderly}
use Rattle.ocp_place.specs.Nets.{signal_ports, net_classes, net_number}

-- An orderly netlist may be drawn where the pins of its cells have columns of their own, with its nets by these numbers.
abbrev pub NetsAreNumbered : Type 0
NetsAreNumbered =
    (n : AbstractNetlist) (l : Library) → IsOrderly n l → ((one : Member) (c : Cell) → In one n.instances → cell_of l one.model ≡ Some c → PinColumnsDiffer c)
    → IsDrawable n l (net_number n l) (signal_ports n)

-- Its nets have these numbers also where pins share columns.
abbrev pub NetsHaveNumbers : Type 0
NetsHaveNumbers = (n : AbstractNetlist) (l : Library) → IsOrderly n l → HasNumberedNets n l (net_number n l) (signal_ports n)

-- And its nets are all the classes but those of the supplies.
abbrev pub NetsAreCounted : Type 0
NetsAreCounted = (n : AbstractNetlist) (l : Library) → IsOrderly n l → length (net_classes n l) + 2 ≡ n.classes
