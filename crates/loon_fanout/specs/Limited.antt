-- A netlist none of whose nets has more than so many sinks, from one that may have.
use Rattle.std.specs.Prelude.{◌≡◌, ◌↔◌, ℕ, ◌+◌, ◌*◌, ◌^◌, ◌<◌, ◌≤◌, List, [], ◌∷◌, ◌++◌, codes, length, map, Some}
use Rattle.std.specs.List.{All, flat_map}
use Rattle.vlsi_base.specs.declared.name.Terminal.{Terminal}
use Rattle.vlsi_base.specs.Names.{vdd, vss}
use Rattle.machine_core.specs.Machine.{names_of, Machine}
use Rattle.machine_core.specs.Checked.{IsChecked}
use Rattle.cell_model.specs.Cell.{Cell}
use Rattle.cell_model.specs.Library.{Library, cell_of, IsUsable}
use Rattle.cell_pins.specs.Pins.{all_ports}
use Rattle.net_core.specs.Netlist.{Instance, Netlist as InMemory, port, terminals, HasClass}
use Rattle.net_core.specs.Places.{IsThere}
use Rattle.net_right.specs.Right.{IsRightNetlist}
use Rattle.text_names.specs.Free.{free_texts}
use Rattle.loon_fanout.specs.declared.error.BufferError.{BufferError}
use Rattle.loon_fanout.specs.declared.error.BufferError.TheVariants as error
use Rattle.loon_fanout.specs.Sinks.{Wired, all_sinks, sinks, wired_of}
use Rattle.loon_fanout.specs.Wired.{with_group}
use Rattle.loon_wiring.specs.Repeaters.{Repeater, IsRepeater, NoneRepeats}

-- A list cut into groups of so many, in their order; the last one may have fewer, but not none.
pub data AreGroups {A : Type 0} (size : ℕ) : List A → List (List A) → Type 0 where
  last : {xs : List A} → 0 < length xs → length xs ≤ size → AreGroups size xs (xs ∷ [])
  next : {xs ys : List A} {groups : List (List A)} → length xs ≡ size → AreGroups size ys groups → AreGroups size (xs ++ ys) (xs ∷ groups)

-- a group of sinks, and the names of the gates that it is put behind
pub record Row : Type 0 where
  pub names : List (List ℕ)
  pub group : List Terminal

-- one round on a net: each group of its sinks is put behind gates of its own
abbrev pub with_round : Cell → Wired → ℕ → List Row → Wired
with_round c n class [] = n
with_round c n class (row ∷ rows) = with_round c (with_group c n class row.names row.group) class rows

-- The netlist after as many rounds as it takes: while a net has more than so many sinks, there is a round on the first such net. The
-- gates that are put in have these names, in their order.
pub data IsLimited (l : Library) (limit : ℕ) (b : Repeater) : List (List ℕ) → Wired → Wired → Type 0 where
  within : {n : Wired} → ((class : ℕ) → length (sinks l n class) ≤ limit) → IsLimited l limit b [] n n
  round : {n k : Wired} {later : List (List ℕ)} (class : ℕ) (rows : List Row)
      → limit < length (sinks l n class) → ((c : ℕ) → c < class → length (sinks l n c) ≤ limit)
      → AreGroups limit (sinks l n class) (map (λ r. r.group) rows) → All (λ r. length r.names ≡ b.gates) rows
      → IsLimited l limit b later (with_round b.cell n class rows) k
      → IsLimited l limit b (flat_map (λ r. r.names) rows ++ later) n k

-- a net has more sinks than that
abbrev pub IsCrowded : Library → ℕ → InMemory → Type 0
IsCrowded l limit n = (class : ℕ) × (limit < length (sinks l (wired_of n) class))

-- a netlist in memory of these ports and instances, in which two terminals have one class exactly where they have one here
pub record IsNetlistOf (r : InMemory) (n : Wired) : Type 0 where
  pub ports : r.ports ≡ n.ports
  pub instances : r.instances ≡ n.instances
  pub classes : (a b : Terminal) (j k : ℕ) → HasClass r a j → HasClass r b k → (j ≡ k) ↔ (n.class a ≡ n.class b)

-- The gates are called b0, b1 and so on, where names of old instances are left out. Name, ports and the instances that were there are
-- the same; which models there are beside those of instances is left open.
pub record IsBuffered (n : InMemory) (l : Library) (limit : ℕ) (r : InMemory) : Type 0 where
  pub name : r.name ≡ n.name
  pub repeater : Repeater
  pub chosen : IsCrowded l limit n → IsRepeater l.cells repeater
  pub names : List (List ℕ)
  pub named : names ≡ free_texts (codes "b") (map (λ i. i.name) n.instances) (length names)
  pub wired : Wired
  pub limited : IsLimited l limit repeater names (wired_of n) wired
  pub is : IsNetlistOf r wired

-- no net has more sinks than that
abbrev pub HasFanout : Library → ℕ → InMemory → Type 0
HasFanout l limit n = (class : ℕ) → length (sinks l (wired_of n) class) ≤ limit

-- there are at most as many gates as the given netlist has input pins that are no clock pins
abbrev pub HasFewGates : InMemory → Library → InMemory → Type 0
HasFewGates n l r = length r.instances ≤ length n.instances + length (all_sinks l n.instances)

-- each instance has a usable cell of the library, and its pins
pub record IsOfCells (n : InMemory) (l : Library) : Type 0 where
  pub found : (i : Instance) → IsThere n.instances i → (c : Cell) × (cell_of l i.model ≡ Some c) × IsUsable c × (i.pins ≡ names_of (all_ports c))
  pub on_vdd : IsThere (terminals n) (port vdd)
  pub on_vss : IsThere (terminals n) (port vss)

-- 32 times the ports and pins are fewer than 2^32: so ports and pins are fewer than that with all gates that may be put in
abbrev pub HasRoomForGates : InMemory → Type 0
HasRoomForGates n = 32 * length (terminals n) < 2 ^ 32

-- where the netlist is right for a machine, the other is too
abbrev pub StaysRight : InMemory → Library → InMemory → Type 0
StaysRight n l r = (m : Machine) → IsChecked m → IsRightNetlist n l m → IsRightNetlist r l m

-- why a netlist isn't buffered, if memory hasn't run out
abbrev pub IsBufferRefusal : InMemory → Library → ℕ → BufferError → Type 0
IsBufferRefusal n l limit error.Memory = Unit {0}
IsBufferRefusal n l limit error.NoBuffer = IsCrowded l limit n × NoneRepeats l.cells
