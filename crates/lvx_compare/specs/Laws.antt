-- What is true of netlists that are the same.
use Rattle.std.specs.Prelude.{Bool, List}
use Rattle.sym_geom.specs.declared.item.Item.{Item}
use Rattle.net_core.specs.declared.pins.ModelPins.{ModelPins}
use Rattle.net_core.specs.Netlist.{Netlist as InMemory, IsNetlist}
use Rattle.net_core.specs.Checks.{Fits}
use Rattle.cell_model.specs.Library.{Library}
use Rattle.cell_checks.specs.Checked.{IsChecked as HasPassed}
use Rattle.cell_pins.specs.Table.{IsTableOf}
use Rattle.net_meaning.specs.Netlist.{AbstractNetlist, Extracts}
use Rattle.net_right.specs.View.{IsSeenAs}
use Rattle.net_right.specs.Same.{AreSameByName, IsEquivalence}
use Rattle.lvx_compare.specs.Compared.{AreSame}

abbrev pub SameIsEquivalence : Type 0
SameIsEquivalence = IsEquivalence AreSame

-- netlists whose ports have the same directions too are the same
abbrev pub SameByNameIsSame : Type 0
SameByNameIsSame = (a b : InMemory) → AreSameByName a b → AreSame a b

-- two netlists of the cells of a checked library, of which each can be seen as one that a layout gives, are the same where the
-- layout is one
abbrev pub OneLayoutIsSame : Type 0
OneLayoutIsSame =
    (items : List Item) (l : Library) (tracks all : Bool) (table : List ModelPins) (a b : InMemory) (k j : AbstractNetlist)
    → HasPassed tracks l → IsTableOf l all table → IsNetlist a → IsNetlist b → Fits a table → Fits b table → IsSeenAs a k → IsSeenAs b j
    → Extracts items l k → Extracts items l j → AreSame a b
