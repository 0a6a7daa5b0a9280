-- Netlists that are one but for drives of cells and the numbers of classes.
use Rattle.std.specs.Prelude.{◌≡◌, ◌↔◌, ℕ, List}
use Rattle.vlsi_base.specs.Member.{In}
use Rattle.vlsi_base.specs.declared.name.Name.{Name}
use Rattle.vlsi_base.specs.declared.name.Terminal.{Terminal}
use Rattle.machine_core.specs.Machine.{names_of}
use Rattle.cell_model.specs.Cell.{Cell, pin_ports}
use Rattle.cell_model.specs.Library.{Library}
use Rattle.net_meaning.specs.Netlist.{Member, AbstractNetlist, port, pin_of}
use Rattle.net_meaning.specs.Well.{Has}
use Rattle.net_theory.specs.Exchanges.{IsDrive}
use Rattle.net_tight.specs.Tight.{IsTight}

-- a port, or a pin of an instance's cell that is no supply
pub data IsSignalTerminal (n : AbstractNetlist) (l : Library) : Terminal → Type 0 where
  a_port : {name : Name} → In name n.ports → IsSignalTerminal n l (port name)
  a_pin : {name : Name} (i : Member) (c : Cell) → Has n l i c → In name (names_of (pin_ports c)) → IsSignalTerminal n l (pin_of i.name name)

-- the instance of this name has a drive of the cell
pub record HasDrive (n : AbstractNetlist) (l : Library) (name : List ℕ) (c : Cell) : Type 0 where
  pub member : Member
  pub cell : Cell
  pub has : Has n l member cell
  pub named : member.name ≡ name
  pub drive : IsDrive c cell

-- The ports are the same, the instances have the same names and drives of the same cells, and the same terminals are in one class. How
-- classes are numbered doesn't matter.
pub record AreAlike (l : Library) (n k : AbstractNetlist) : Type 0 where
  pub ports : k.ports ≡ n.ports
  pub forth : (i : Member) (c : Cell) → Has n l i c → HasDrive k l i.name c
  pub back : (i : Member) (c : Cell) → Has k l i c → HasDrive n l i.name c
  pub once : (i j : Member) → In i k.instances → In j k.instances → i.name ≡ j.name → i ≡ j
  pub classes : (t u : Terminal) → IsSignalTerminal n l t → IsSignalTerminal n l u → (n.class t ≡ n.class u) ↔ (k.class t ≡ k.class u)

-- where one of two such netlists is tight, the other is
abbrev pub TightnessIsKept : Type 0
TightnessIsKept = (l : Library) (n k : AbstractNetlist) → AreAlike l n k → IsTight n l → IsTight k l
