-- Netlists that are read, and the pins of cells, have names that can be written.
use Rattle.std.specs.Prelude.{ℕ, Bool, List}
use Rattle.std.specs.List.{All}
use Rattle.vlsi_base.specs.Member.{In}
use Rattle.text_names.specs.Words.{IsIdentifier, ArePortsNamed}
use Rattle.cell_model.specs.Library.{Library}
use Rattle.cell_lib.specs.Library.{IsLibraryOf}
use Rattle.cell_pins.specs.Table.{IsTableOf}
use Rattle.net_core.specs.declared.pins.ModelPins.{ModelPins}
use Rattle.net_core.specs.Netlist.{Instance, Netlist}
use Rattle.net_right.specs.Condition.{MeetsCondition}
use Rattle.net_right.specs.Writable.{CanBeNamed, PinsCanBeWritten}
use Rattle.vst_io.specs.Text.{IsVst, signal_ports}

-- the names of a netlist and of its instances are identifiers, and its ports but the supplies can be declared
pub record HasNames (n : Netlist) : Type 0 where
  pub name : IsIdentifier n.name
  pub signals : ArePortsNamed (signal_ports n)
  pub instances : All (λ i. IsIdentifier i.name) n.instances

-- so it is with one that is read
abbrev pub NetlistHasNames : Type 0
NetlistHasNames = (bytes : List ℕ) (table : List ModelPins) (n : Netlist) → IsVst bytes table n → HasNames n

-- its names can be written in a structural text again, where those of its cells can
abbrev pub NetlistCanBeNamed : Type 0
NetlistCanBeNamed =
    (bytes : List ℕ) (table : List ModelPins) (n : Netlist) → IsVst bytes table n → MeetsCondition table n
    → ((i : Instance) → In i n.instances → IsIdentifier i.model) → CanBeNamed n

-- so can the names of the pins of a library that is read
abbrev pub TableCanBeWritten : Type 0
TableCanBeWritten =
    (tracks all : Bool) (catal : List ℕ) (files : List (List ℕ)) (l : Library) (table : List ModelPins)
    → IsLibraryOf tracks catal files l → IsTableOf l all table → PinsCanBeWritten table
