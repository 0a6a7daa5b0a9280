-- What each stage asks of a netlist that it is lent with a library.
use Rattle.std.specs.Prelude.{◌≡◌, ◌⊎◌, IsTrue, ℕ, Bool, List, None}
use Rattle.vlsi_base.specs.declared.name.Name.{Name}
use Rattle.vlsi_base.specs.declared.name.Port.{Port}
use Rattle.vlsi_base.specs.declared.name.Dir.TheVariants as dir
use Rattle.vlsi_base.specs.Name.{is_supply}
use Rattle.vlsi_base.specs.Names.{vdd, vss}
use Rattle.net_core.specs.declared.pins.ModelPins.{ModelPins}
use Rattle.net_core.specs.Places.{IsThere}
use Rattle.net_core.specs.Netlist.{Instance, Netlist, port, pin_of, HasClass}
use Rattle.net_core.specs.Checks.{Fits, Passes, IsPinTable}
use Rattle.cell_model.specs.Library.{Library}
use Rattle.cell_pins.specs.Table.{IsTableOf}

-- both terminals are there, and they have one class
pub record AreTogether (n : Netlist) (name : Name) (owner : List ℕ) : Type 0 where
  pub class : ℕ
  pub of_port : HasClass n (port name) class
  pub of_pin : HasClass n (pin_of owner name) class

-- The netlist fits the table of pins and has no fault; a port with the text of a supply is an input of one bit; each instance's
-- pins of supplies are in the classes of the ports of their names; and no two ports have one class.
pub record MeetsCondition (table : List ModelPins) (n : Netlist) : Type 0 where
  pub fits : Fits n table
  pub passes : Passes table n
  pub supplies : (p : Port) → IsThere n.ports p → IsTrue (is_supply p.name.text) → (p.name.bit ≡ None) × (p.dir ≡ dir.In)
  pub tied : (i : Instance) (supply : Name) → IsThere n.instances i → (supply ≡ vdd) ⊎ (supply ≡ vss) → AreTogether n supply i.name
  pub apart : (a b : Name) (k : ℕ) → HasClass n (port a) k → HasClass n (port b) k → a ≡ b

-- so it does with the pins of a library's cells, whether all of them are listed or the usable ones alone
abbrev pub MeetsConditionIn : Library → Netlist → Type 0
MeetsConditionIn l n = (all : Bool) (table : List ModelPins) → IsTableOf l all table → IsPinTable table → MeetsCondition table n
