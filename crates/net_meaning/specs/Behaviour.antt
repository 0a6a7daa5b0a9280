-- How a netlist of cells behaves.
use Rattle.std.specs.Prelude.{◌≡◌, ℕ, Bool, true, false, List, [], ◌∷◌, map, length, Option, None, Some, if◌then◌else◌}
use Rattle.vlsi_base.specs.Member.{In}
use Rattle.vlsi_base.specs.Names.{vdd, vss}
use Rattle.vlsi_base.specs.declared.name.Name.{Name}
use Rattle.vlsi_base.specs.declared.name.Terminal.{Terminal}
use Rattle.bool_expr.specs.Expression.{val, bit}
use Rattle.machine_core.specs.Named.{is_same_text}
use Rattle.machine_core.specs.Machine.{Machine, inputs, outputs}
use Rattle.machine_core.specs.Cycles.{Settles, outs, next}
use Rattle.machine_core.specs.Runs.{Run}
use Rattle.cell_model.specs.Cell.{Function, gate, flip_flop, other, opaque, Cell, cell_inputs, cell_outputs}
use Rattle.cell_model.specs.Library.{Library, cell_of}
use Rattle.net_meaning.specs.Netlist.{Member, AbstractNetlist, port, pin_of}

-- What the instances hold, by their names: a flip-flop one bit, and an instance of another machine a bit for each of its
-- registers.
abbrev pub Contents : Type 0
Contents = List ℕ → List Bool

-- what a netlist shows in a cycle
pub record Valuation : Type 0 where
  -- a bit for each class; the clock's class has none, and stands as 0
  pub classes : List Bool
  -- and within an instance of another machine, by the instance's name, a bit for each name of that machine
  pub inner : List ℕ → List Bool

-- the bit of a terminal's class
abbrev pub bit_of : AbstractNetlist → List Bool → Terminal → Bool
bit_of n w t = bit w (n.class t)

abbrev pub pin_bits : AbstractNetlist → List Bool → List ℕ → List Name → List Bool
pin_bits n w owner pins = map (λ p. bit_of n w (pin_of owner p)) pins

-- One instance under w: a gate's output has the value of its expression, and a flip-flop's the bit that it holds. Another machine
-- has settled within, from what the instance holds and under its input pins, and its outputs are at the output pins. Of an
-- opaque cell nothing is said.
abbrev pub Drives : AbstractNetlist → Valuation → Contents → List ℕ → Cell → Function → Type 0
Drives n w t owner c (gate e) =
    pin_bits n w.classes owner (cell_outputs c) ≡ val e (pin_bits n w.classes owner (cell_inputs c)) ∷ []
Drives n w t owner c (flip_flop data_pin clock_pin) = pin_bits n w.classes owner (cell_outputs c) ≡ bit (t owner) 0 ∷ []
Drives n w t owner c (other m) =
    Settles m (t owner) (pin_bits n w.classes owner (inputs m)) (w.inner owner)
    × (pin_bits n w.classes owner (outputs m) ≡ outs m (w.inner owner))
Drives n w t owner c opaque = Unit {0}

-- w is a valuation of the netlist, from the contents t and under the input vector i
pub record NetSettles (n : AbstractNetlist) (l : Library) (input_names : List Name) (clock : Option Name) (t : Contents) (i : List Bool) (w : Valuation) : Type 0 where
  pub each : length w.classes ≡ n.classes
  -- vdd is 1 and vss is 0, where they are ports
  pub high : In vdd n.ports → bit_of n w.classes (port vdd) ≡ true
  pub low : In vss n.ports → bit_of n w.classes (port vss) ≡ false
  pub still : (name : Name) → clock ≡ Some name → bit_of n w.classes (port name) ≡ false
  pub inputs : map (λ name. bit_of n w.classes (port name)) input_names ≡ i
  pub instances : (one : Member) (c : Cell) → In one n.instances → cell_of l one.model ≡ Some c → Drives n w t one.name c c.function

-- the model of the instance of this name
abbrev pub model_of : List Member → List ℕ → Option (List ℕ)
model_of [] name = None
model_of (one ∷ rest) name = if is_same_text one.name name then Some one.model else model_of rest name

abbrev pub cell_at : Library → Option (List ℕ) → Option Cell
cell_at l None = None
cell_at l (Some model) = cell_of l model

-- what an instance holds after the clock's rise: a flip-flop the bit of its data pin's class, and another machine what its
-- registers take
abbrev pub loaded : AbstractNetlist → Valuation → List ℕ → Function → List Bool
loaded n w owner (gate e) = []
loaded n w owner (flip_flop data_pin clock_pin) = bit_of n w.classes (pin_of owner data_pin) ∷ []
loaded n w owner (other m) = next m (w.inner owner)
loaded n w owner opaque = []

abbrev pub next_held : AbstractNetlist → Valuation → List ℕ → Option Cell → List Bool
next_held n w owner None = []
next_held n w owner (Some c) = loaded n w owner c.function

-- the next contents; a name that is no instance's holds nothing
abbrev pub net_next : AbstractNetlist → Library → Valuation → Contents
net_next n l w owner = next_held n w owner (cell_at l (model_of n.instances owner))

-- the bits of the output ports
abbrev pub net_outs : AbstractNetlist → List Name → List Bool → List Bool
net_outs n outputs w = map (λ name. bit_of n w (port name)) outputs

-- The bits of the classes in each of the cycles: from the contents t, under the vectors v, which have a bit for each input of
-- the machine.
abbrev pub NetTrace : AbstractNetlist → Library → Machine → Contents → List (List Bool) → List (List Bool) → Type 0
NetTrace n l m t v ws = Run (NetSettles n l (inputs m) m.clock) (λ w. w.classes) (net_next n l) t v ws
