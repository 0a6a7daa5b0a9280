-- What is true of every layout.
use Rattle.std.specs.Prelude.{◌≡◌, ◌↔◌, List}
use Rattle.vlsi_base.specs.declared.name.Name.{Name}
use Rattle.vlsi_base.specs.declared.name.Terminal.{Terminal}
use Rattle.sym_geom.specs.declared.item.Item.{Item}
use Rattle.vlsi_base.specs.Member.{In}
use Rattle.cell_model.specs.Library.{Library}
use Rattle.net_meaning.specs.Netlist.{AbstractNetlist, IsTerminal, Extracts}

-- two netlists with the same ports and instances, which tie the same terminals
pub record AreSame (l : Library) (n k : AbstractNetlist) : Type 0 where
  pub ports : (name : Name) → In name n.ports ↔ In name k.ports
  pub instances : n.instances ≡ k.instances
  pub terminals : (t : Terminal) → IsTerminal n l t ↔ IsTerminal k l t
  pub classes : (a b : Terminal) → IsTerminal n l a → IsTerminal n l b → (n.class a ≡ n.class b) ↔ (k.class a ≡ k.class b)

-- a layout gives one netlist, whatever its classes are called
abbrev pub GivesOneNetlist : Type 0
GivesOneNetlist = (items : List Item) (l : Library) (n k : AbstractNetlist) → Extracts items l n → Extracts items l k → AreSame l n k
