-- The arcs that a cell needs, so that it can be said how long it takes.
use Rattle.std.specs.Prelude.{◌≡◌, ◌⊎◌, ℕ, List, Some, slice_get}
use Rattle.vlsi_base.specs.declared.name.Name.{Name}
use Rattle.vlsi_base.specs.declared.name.Dir.{Dir}
use Rattle.vlsi_base.specs.declared.name.Dir.TheVariants as dir
use Rattle.cell_model.specs.declared.cell.Arc.{Arc}
use Rattle.cell_model.specs.declared.cell.Pin.{Pin}
use Rattle.cell_model.specs.Cell.{Function, gate, flip_flop, other, opaque, Cell}
use Rattle.cell_model.specs.Library.{Library, cell_of, IsUsable}

-- a pin of this name and direction is among those of a cell
pub record HasPin (pins : List Pin) (way : Dir) (name : Name) : Type 0 where
  pub pin : Pin
  pub listed : (k : ℕ) × (slice_get pins k ≡ Some pin)
  pub named : pin.port.name ≡ name
  pub is : pin.port.dir ≡ way

-- through a gate paths go on from each input
abbrev pub GoesThrough : Function → Name → Type 0
GoesThrough (gate e) pin = Unit {0}
GoesThrough (flip_flop data_pin clock_pin) pin = ⊥
GoesThrough (other machine) pin = ⊥
GoesThrough opaque pin = ⊥

-- at a flip-flop paths begin, with the arc from its clock
abbrev pub BeginsThere : Function → Name → Type 0
BeginsThere (gate e) pin = ⊥
BeginsThere (flip_flop data_pin clock_pin) pin = pin ≡ clock_pin
BeginsThere (other machine) pin = ⊥
BeginsThere opaque pin = ⊥

-- paths begin at the pin, or go on from it
abbrev pub Begins : Function → Name → Type 0
Begins f pin = BeginsThere f pin ⊎ GoesThrough f pin

-- a cell has one arc from each input pin at which paths begin or from which they go on to each output pin
pub record HasItsArcs (c : Cell) : Type 0 where
  pub one : (from to : Name) → Begins c.function from → HasPin c.pins dir.In from → HasPin c.pins dir.Out to
      → (k : ℕ) × (a : Arc) × (slice_get c.arcs k ≡ Some a) × (a.from ≡ from) × (a.to ≡ to)
  pub once : (j k : ℕ) (a b : Arc) → slice_get c.arcs j ≡ Some a → slice_get c.arcs k ≡ Some b → a.from ≡ b.from → a.to ≡ b.to → j ≡ k

-- so have all usable cells of a library
abbrev pub HaveTheirArcs : Library → Type 0
HaveTheirArcs l = (model : List ℕ) (c : Cell) → cell_of l model ≡ Some c → IsUsable c → HasItsArcs c
