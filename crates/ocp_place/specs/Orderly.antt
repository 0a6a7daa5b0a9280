-- What placing and drawing ask of a netlist of layouts.
use Rattle.std.specs.Prelude.{◌≡◌, ◌≢◌, IsTrue, AllPairs, Some}
use Rattle.vlsi_base.specs.declared.name.Name.{Name}
use Rattle.vlsi_base.specs.declared.name.Terminal.{Terminal}
use Rattle.vlsi_base.specs.Names.{vdd, vss, comes_before}
use Rattle.vlsi_base.specs.Member.{In}
use Rattle.cell_model.specs.Cell.{Cell, cell_outputs}
use Rattle.cell_model.specs.Library.{Library, cell_of, IsUsable}
use Rattle.net_meaning.specs.Netlist.{Member, AbstractNetlist, port, pin_of, IsTerminal}
use Rattle.net_theory.specs.Laws.{IsCounted}
use Rattle.net_drawing.specs.Clean.{IsClean}
use Rattle.net_drawing.specs.Shown.{IsSupplyClass}

-- an output pin of an instance
pub record IsOutput (n : AbstractNetlist) (l : Library) (t : Terminal) : Type 0 where
  pub owner : Member
  pub cell : Cell
  pub pin : Name
  pub listed : In owner n.instances
  pub found : cell_of l owner.model ≡ Some cell
  pub gives : In pin (cell_outputs cell)
  pub is : t ≡ pin_of owner.name pin

-- a port, or an output pin
pub data IsSource (n : AbstractNetlist) (l : Library) (t : Terminal) : Type 0 where
  from_port : (name : Name) → In name n.ports → t ≡ port name → IsSource n l t
  from_output : IsOutput n l t → IsSource n l t

pub record IsOrderly (n : AbstractNetlist) (l : Library) : Type 0 where
  -- its models are usable and clean cells, and its instances have different names
  pub models : (one : Member) → In one n.instances → (c : Cell) × (cell_of l one.model ≡ Some c) × IsUsable c × IsClean c
  pub names : AllPairs (λ a b. a.name ≢ b.name) n.instances
  -- its ports stand in the order of names, those of the supplies among them, and no two have one class
  pub order : AllPairs (λ a b. IsTrue (comes_before a b)) n.ports
  pub has_vdd : In vdd n.ports
  pub has_vss : In vss n.ports
  pub apart : (a b : Name) → In a n.ports → In b n.ports → n.class (port a) ≡ n.class (port b) → a ≡ b
  -- each pin of a supply is in the class of the supply's port
  pub high : (t : Terminal) → IsTerminal n l t → t.pin ≡ vdd → n.class t ≡ n.class (port vdd)
  pub low : (t : Terminal) → IsTerminal n l t → t.pin ≡ vss → n.class t ≡ n.class (port vss)
  -- each class has a port or an output pin; no class has two of these pins, and none of a supply has one
  pub sources : (t : Terminal) → IsTerminal n l t → (s : Terminal) × IsSource n l s × (n.class s ≡ n.class t)
  pub outputs : (t u : Terminal) → IsOutput n l t → IsOutput n l u → n.class t ≡ n.class u → t ≡ u
  pub free : (t : Terminal) → IsOutput n l t → IsSupplyClass n (n.class t) → ⊥
  -- its classes are numbered without a gap
  pub counted : IsCounted l n
