-- Netlists whose buffers are taken out.
use Rattle.std.specs.Prelude.{◌≡◌, ℕ}
use Rattle.vlsi_base.specs.declared.name.Name.{Name}
use Rattle.vlsi_base.specs.Member.{In}
use Rattle.cell_model.specs.Cell.{Cell, cell_inputs, cell_outputs}
use Rattle.cell_model.specs.Library.{Library}
use Rattle.net_meaning.specs.Netlist.{Member, AbstractNetlist, pin_of}
use Rattle.net_meaning.specs.Well.{Has, buffer_instance}

-- Two classes are made one when each instance named b is taken out, and the two classes that it ties are made one.
pub data AreOne (n : AbstractNetlist) (l : Library) : ℕ → ℕ → Type 0 where
  alike : {a : ℕ} → AreOne n l a a
  tied : (i : Member) (c : Cell) (j : ℕ) (input output : Name) → Has n l i c → i.name ≡ buffer_instance j → In input (cell_inputs c)
      → In output (cell_outputs c) → AreOne n l (n.class (pin_of i.name input)) (n.class (pin_of i.name output))
  turned : {a b : ℕ} → AreOne n l a b → AreOne n l b a
  through : {a b d : ℕ} → AreOne n l a b → AreOne n l b d → AreOne n l a d
