-- What is true of the nets of a limited netlist, in the terms of a netlist that layouts give.
use Rattle.std.specs.Prelude.{◌≡◌, ◌≢◌, ◌⊎◌, ℕ, ◌≤◌, Bool, List, length}
use Rattle.vlsi_base.specs.declared.name.Name.{Name}
use Rattle.vlsi_base.specs.declared.name.Terminal.{Terminal}
use Rattle.vlsi_base.specs.Names.{vdd, vss}
use Rattle.vlsi_base.specs.Member.{In, AllDifferent}
use Rattle.machine_core.specs.Machine.{Machine}
use Rattle.machine_core.specs.Checked.{IsChecked}
use Rattle.cell_model.specs.Cell.{Cell, cell_inputs}
use Rattle.cell_model.specs.Library.{Library}
use Rattle.cell_checks.specs.Checked.{IsChecked as HasPassed}
use Rattle.net_core.specs.Places.{IsThere}
use Rattle.net_core.specs.Netlist.{Instance, Netlist as InMemory, IsNetlist, terminals}
use Rattle.net_meaning.specs.Netlist.{Member, AbstractNetlist, port, pin_of}
use Rattle.net_meaning.specs.Well.{Has, IsClockPin, IsSpecial, buffer_instance}
use Rattle.net_meaning.specs.Buffers.{AreOne}
use Rattle.net_right.specs.View.{IsSeenAs}
use Rattle.net_right.specs.Right.{IsRightNetlist}
use Rattle.loon_fanout.specs.Limited.{IsBuffered, HasFanout, IsOfCells}

-- an input pin of an instance's cell; supplies are none
pub data IsInputPin (n : AbstractNetlist) (l : Library) : Terminal → Type 0 where
  an_input_pin : {name : Name} (i : Member) (c : Cell) → Has n l i c → In name (cell_inputs c) → IsInputPin n l (pin_of i.name name)

-- no class but those of vdd, vss and the clock has more input pins than that
abbrev pub HasFewInputs : AbstractNetlist → Library → Machine → ℕ → Type 0
HasFewInputs n l m limit =
    (k : ℕ) (pins : List Terminal) → AllDifferent pins
    → ((t : Terminal) → In t pins → IsInputPin n l t × (n.class t ≡ k) × (IsSpecial n m t → ⊥)) → length pins ≤ limit

-- So it is for a right netlist none of whose nets has more sinks than that, as each that it can be seen as.
abbrev pub RightHasFewInputs : Type 0
RightHasFewInputs =
    (n : InMemory) (l : Library) (m : Machine) (limit : ℕ) (k : AbstractNetlist) → IsNetlist n → IsChecked m → IsOfCells n l
    → IsRightNetlist n l m → HasFanout l limit n → IsSeenAs n k → HasFewInputs k l m limit

-- ---- limited netlists

-- a limited netlist is of usable cells, and no net of it has more sinks than that
abbrev pub BufferedRemains : Type 0
BufferedRemains =
    (tracks : Bool) (n : InMemory) (l : Library) (limit : ℕ) (r : InMemory) → HasPassed tracks l → IsNetlist n → IsNetlist r
    → IsOfCells n l → IsBuffered n l limit r → IsOfCells r l × HasFanout l limit r

-- where the given netlist is right for a machine, the limited one has few input pins in each class
abbrev pub BufferedHasFewInputs : Type 0
BufferedHasFewInputs =
    (tracks : Bool) (n : InMemory) (l : Library) (m : Machine) (limit : ℕ) (r : InMemory) (k : AbstractNetlist) → HasPassed tracks l → IsNetlist n
    → IsNetlist r → IsChecked m → IsOfCells n l → IsRightNetlist n l m → IsBuffered n l limit r → IsSeenAs r k → HasFewInputs k l m limit

-- ---- buffers taken out

-- an input pin, and no clock pin, of an instance that isn't named b
pub data IsStaying (n : AbstractNetlist) (l : Library) : Terminal → Type 0 where
  staying : {name : Name} (i : Member) (c : Cell) → Has n l i c → In name (cell_inputs c) → ((j : ℕ) → i.name ≢ buffer_instance j)
      → (IsClockPin n l (pin_of i.name name) → ⊥) → IsStaying n l (pin_of i.name name)

-- a class that isn't made one with that of a supply when the instances named b are taken out so
abbrev pub IsNet : AbstractNetlist → Library → ℕ → Type 0
IsNet n l k = (supply : Name) → (supply ≡ vdd) ⊎ (supply ≡ vss) → AreOne n l k (n.class (port supply)) → ⊥

-- with the instances named b taken out so, no such class has more such pins than that
abbrev pub FitsWithoutBuffers : AbstractNetlist → Library → ℕ → Type 0
FitsWithoutBuffers n l limit =
    (k : ℕ) (pins : List Terminal) → IsNet n l k → AllDifferent pins
    → ((t : Terminal) → In t pins → IsStaying n l t × AreOne n l k (n.class t)) → length pins ≤ limit

abbrev pub HasNoBuffer : AbstractNetlist → Type 0
HasNoBuffer n = (i : Member) (j : ℕ) → In i n.instances → i.name ≢ buffer_instance j

-- Where the limited netlist would do without its buffers, it has none; the given one has no instances of their names.
abbrev pub BuffersAreNeeded : Type 0
BuffersAreNeeded =
    (tracks : Bool) (n : InMemory) (l : Library) (limit : ℕ) (r : InMemory) (k : AbstractNetlist) → HasPassed tracks l → IsNetlist n → IsNetlist r
    → IsOfCells n l → ((i : Instance) (j : ℕ) → IsThere n.instances i → i.name ≢ buffer_instance j) → IsBuffered n l limit r
    → IsSeenAs r k → FitsWithoutBuffers k l limit → HasNoBuffer k

-- Terminals of the given netlist that are in one class of the limited one, once the buffers are taken out of this, were in one class.
abbrev pub BufferedJoinsNothing : Type 0
BufferedJoinsNothing =
    (tracks : Bool) (n : InMemory) (l : Library) (limit : ℕ) (r : InMemory) (y k : AbstractNetlist) → HasPassed tracks l → IsNetlist n → IsNetlist r
    → IsOfCells n l → ((i : Instance) (j : ℕ) → IsThere n.instances i → i.name ≢ buffer_instance j) → IsBuffered n l limit r
    → IsSeenAs n y → IsSeenAs r k → (t u : Terminal) → IsThere (terminals n) t → IsThere (terminals n) u → AreOne k l (k.class t) (k.class u)
    → y.class t ≡ y.class u
