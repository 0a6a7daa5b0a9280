-- Changes of a netlist that keep what it shows: cells of other drives, and nodes behind buffers.
use Rattle.std.specs.Prelude.{◌≡◌, ℕ, ◌+◌, ◌<◌, Bool, List, map, length, Some}
use Rattle.bool_expr.specs.Expression.{val}
use Rattle.machine_core.specs.Machine.{Machine, inputs, outputs}
use Rattle.vlsi_base.specs.Member.{In}
use Rattle.cell_model.specs.Cell.{Function, gate, flip_flop, Cell, pin_ports}
use Rattle.cell_model.specs.Library.{Library, cell_of, IsUsable}
use Rattle.net_meaning.specs.Netlist.{Member, AbstractNetlist}
use Rattle.net_theory.specs.Sources.{Values, Roots, Sourced, Shows}
use Rattle.net_theory.specs.Meaning.{Means}

-- two cells compute one function
abbrev pub IsSameFunction : Function → Function → Type 0
IsSameFunction (gate e) (gate x) = (w : List Bool) → val x w ≡ val e w
IsSameFunction (flip_flop d k) (flip_flop b j) = (b ≡ d) × (j ≡ k)
IsSameFunction _ _ = ⊥

-- the second cell is a drive of the first: it has the same ports, whatever their capacitances are
pub record IsDrive (c d : Cell) : Type 0 where
  pub pins : pin_ports d ≡ pin_ports c
  pub function : IsSameFunction c.function d.function

-- the second netlist has, for each instance, one of the same name whose cell is a drive of its cell
pub record IsExchanged (l : Library) (n k : AbstractNetlist) : Type 0 where
  pub ports : k.ports ≡ n.ports
  pub classes : k.classes ≡ n.classes
  pub class : k.class ≡ n.class
  pub drive : Member → Member
  pub instances : k.instances ≡ map drive n.instances
  pub named : (i : Member) → (drive i).name ≡ i.name
  pub each : (i : Member) (c : Cell) → In i n.instances → cell_of l i.model ≡ Some c
      → (d : Cell) × (cell_of l (drive i).model ≡ Some d) × IsUsable d × IsDrive c d

-- what a netlist shows, it still shows once cells are exchanged for drives of them
abbrev pub ShownExchanged : Type 0
ShownExchanged = (n : Sourced) (k : AbstractNetlist) (l : Library) (m : Machine) (f : Values) (r : Roots)
    → Shows n l m f r → IsExchanged l n.netlist k
    → Shows (record { netlist = k; source = n.source; rank = n.rank }) l m f r

-- each node has the bit of the node that it stands for, as a buffer's output does
abbrev pub standing_for : (ℕ → ℕ) → Values → Values
standing_for origin f i s a = f i s (origin a)

-- Where inputs and registers stand for themselves and the new roots for the old ones, the nodes still mean the machine.
abbrev pub MeansBehind : Type 0
MeansBehind = (m : Machine) (f : Values) (r q : Roots) (origin : ℕ → ℕ) → Means m f r
    → ((a : ℕ) → a < length (inputs m) + length m.registers → origin a ≡ a)
    → ((k : ℕ) → k < length (outputs m) → origin (q.output k) ≡ r.output k)
    → ((k : ℕ) → k < length m.registers → origin (q.load k) ≡ r.load k)
    → Means m (standing_for origin f) q
