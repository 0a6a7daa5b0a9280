-- Where the pins of a placed netlist's nets come from.
use Rattle.std.specs.Prelude.{◌≡◌, ◌⊎◌, ◌<◌, ℕ, length, None, Some}
use Rattle.vlsi_base.specs.declared.name.Name.{Name}
use Rattle.vlsi_base.specs.Member.{In}
use Rattle.machine_core.specs.Machine.{names_of}
use Rattle.cell_model.specs.Access.{Point, access_point}
use Rattle.cell_model.specs.Cell.{Cell, pin_ports}
use Rattle.cell_model.specs.Library.{Library, cell_of}
use Rattle.net_meaning.specs.Netlist.{AbstractNetlist, port, pin_of}
use Rattle.ocp_rows.specs.Placement.{Placement}
use Rattle.ocp_rows.specs.Length.{point_of}
use Rattle.ocp_place.specs.Stood.{member}
use Rattle.row_meaning.specs.declared.Pin.{Pin}
use Rattle.row_bridge.specs.Numbered.{pin_at}

-- a port in this class
pub record IsPortPin (n : AbstractNetlist) (l : Library) (p : Placement) (class : ℕ) (q : Pin) : Type 0 where
  pub name : Name
  pub place : Point
  pub listed : In name n.ports
  pub class_is : n.class (port name) ≡ class
  pub at : point_of l p None name ≡ Some place
  pub is : q ≡ pin_at (length n.instances) place

-- a signal pin in this class of an instance, which has a number
pub record IsOwnPin (n : AbstractNetlist) (l : Library) (class : ℕ) (q : Pin) : Type 0 where
  pub number : ℕ
  pub cell : Cell
  pub pin : Name
  pub place : Point
  pub inside : number < length n.instances
  pub found : cell_of l (member n.instances number).model ≡ Some cell
  pub is_pin : In pin (names_of (pin_ports cell))
  pub class_is : n.class (pin_of (member n.instances number).name pin) ≡ class
  pub at : access_point cell pin ≡ Some place
  pub is : q ≡ pin_at number place

abbrev pub IsNetPin : AbstractNetlist → Library → Placement → ℕ → Pin → Type 0
IsNetPin n l p class q = IsPortPin n l p class q ⊎ IsOwnPin n l class q
