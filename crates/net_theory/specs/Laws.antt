-- What is true of each netlist that shows nodes with the meaning of a machine.
use Rattle.std.specs.Prelude.{◌≡◌, ℕ, ◌<◌}
use Rattle.vlsi_base.specs.declared.name.Terminal.{Terminal}
use Rattle.machine_core.specs.Machine.{Machine}
use Rattle.machine_core.specs.Checked.{IsChecked}
use Rattle.cell_model.specs.Library.{Library}
use Rattle.net_meaning.specs.Netlist.{AbstractNetlist, IsTerminal}
use Rattle.net_meaning.specs.Laws.{AreSame}
use Rattle.net_meaning.specs.Well.{IsWell}
use Rattle.net_meaning.specs.Agreement.{Agrees}
use Rattle.net_theory.specs.Sources.{Source, Values, Roots, Sourced, Shows}
use Rattle.net_theory.specs.Meaning.{Means}

-- a netlist that shows nodes is well formed for the machine
abbrev pub ShownIsWell : Type 0
ShownIsWell = (n : Sourced) (l : Library) (m : Machine) (f : Values) (r : Roots)
    → IsChecked m → Shows n l m f r → IsWell n.netlist l m

-- and where the nodes mean the machine, it behaves as the machine does
abbrev pub ShownAgrees : Type 0
ShownAgrees = (n : Sourced) (l : Library) (m : Machine) (f : Values) (r : Roots)
    → IsChecked m → Shows n l m f r → Means m f r → Agrees n.netlist l m

-- the classes of a netlist are numbered without a gap
pub record IsCounted (l : Library) (n : AbstractNetlist) : Type 0 where
  pub numbered : (t : Terminal) → IsTerminal n l t → n.class t < n.classes
  pub used : (k : ℕ) → k < n.classes → (t : Terminal) × IsTerminal n l t × (n.class t ≡ k)

-- What a netlist shows doesn't hang on how its classes are numbered: another one that ties the same terminals shows it too.
abbrev pub ShownElsewhere : Type 0
ShownElsewhere = (n : Sourced) (k : AbstractNetlist) (l : Library) (m : Machine) (f : Values) (r : Roots)
    → IsChecked m → Shows n l m f r → AreSame l n.netlist k → IsCounted l k
    → (source : (ℕ → Source)) × Shows (record { netlist = k; source = source; rank = n.rank }) l m f r
