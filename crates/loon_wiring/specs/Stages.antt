-- What the stages give: the repeater, and the classes of terminals with gates put in.
use Rattle.std.specs.Prelude.{◌≡◌, ◌⊎◌, ℕ, ◌+◌, ◌<◌, ◌≤◌, Bool, true, false, List, [], ◌∷◌, ◌++◌, length, map, slice_set, if◌then◌else◌}
use Prim.Native.Nat.{suc}
use Rattle.std.specs.Global.{Vec}
use Rattle.vlsi_base.specs.declared.name.Port.{Port}
use Rattle.vlsi_base.specs.Names.{vdd, vss}
use Rattle.machine_core.specs.Machine.{is_input, names_of}
use Rattle.machine_core.specs.Named.{is_same_name}
use Rattle.cell_model.specs.Cell.{Cell}
use Rattle.cell_pins.specs.Pins.{all_ports}
use Rattle.loon_wiring.specs.declared.repeater.Tie.{Tie}
use Rattle.loon_wiring.specs.declared.repeater.Tie.TheVariants as tie
use Rattle.loon_wiring.specs.declared.repeater.Repeater.{Repeater as Parts}
use Rattle.loon_wiring.specs.declared.wiring.Ends.{Ends}
use Rattle.loon_wiring.specs.declared.wiring.Wiring.{Wiring}
use Rattle.loon_wiring.specs.Repeaters.{Repeater, IsRepeater}

-- ---- repeaters

-- supplies are tied to supplies, inputs read, and an output is driven
abbrev pub tie_of : Port → Tie
tie_of p =
    if is_same_name p.name vdd then tie.High
    else if is_same_name p.name vss then tie.Low
    else if is_input p.dir then tie.Read
    else tie.Driven

-- a cell as it is put in
pub record IsPart (c : Cell) (many : ℕ) (r : Parts) : Type 0 where
  pub model : r.model ≡ c.name
  pub pins : r.pins ≡ names_of (all_ports c)
  pub ties : r.ties.items ≡ map tie_of (all_ports c)
  pub gates : many ≡ (if r.twice then 2 else 1)

-- the repeater of a list of cells
pub record IsRepeaterOf (cells : List Cell) (r : Parts) : Type 0 where
  pub repeater : Repeater
  pub chosen : IsRepeater cells repeater
  pub is : IsPart repeater.cell repeater.gates r

-- ---- gates put in

-- the class that the next gate drives
abbrev pub next_class : Wiring → ℕ
next_class v = v.first + length v.reads.items

-- where the pins of the next gate go
abbrev pub ends_of : Wiring → ℕ → Ends
ends_of v read = record { high = v.high; low = v.low; read = read; driven = next_class v }

abbrev pub tied_class : Ends → Tie → ℕ
tied_class e tie.High = e.high
tied_class e tie.Low = e.low
tied_class e tie.Read = e.read
tied_class e tie.Driven = e.driven

abbrev pub is_read : Tie → Bool
is_read tie.High = false
is_read tie.Low = false
is_read tie.Read = true
is_read tie.Driven = false

-- the place of the last pin that reads, behind so many terminals
abbrev pub read_place : ℕ → ℕ → List Tie → ℕ
read_place found place [] = found
read_place found place (t ∷ ties) = read_place (if is_read t then place else found) (suc place) ties

-- one gate more, that reads a class; its input has this place
pub record PutsGate (ties : List Tie) (old new : Wiring) (read input : ℕ) : Type 0 where
  pub classes : new.classes.items ≡ old.classes.items ++ map (tied_class (ends_of old read)) ties
  pub reads : new.reads.items ≡ old.reads.items ++ read ∷ []
  pub first : new.first ≡ old.first
  pub high : new.high ≡ old.high
  pub low : new.low ≡ old.low
  pub place : input ≡ read_place (length old.classes.items) (length old.classes.items) ties

-- one gate, or two in a row
pub data PutsRow (r : Parts) (old new : Wiring) (read input : ℕ) : ℕ → Type 0 where
  once : r.twice ≡ false → PutsGate r.ties.items old new read input → PutsRow r old new read input (next_class old)
  two : (middle : Wiring) (other : ℕ) → r.twice ≡ true → PutsGate r.ties.items old middle read input
      → PutsGate r.ties.items middle new (next_class old) other → PutsRow r old new read input (next_class middle)

-- the end of a group: behind the start, at most so many places on, and less only at the end of the list
pub record EndsGroup (many start limit end : ℕ) : Type 0 where
  pub more : start < end
  pub within : end ≤ many
  pub small : end ≤ start + limit
  pub full : (end ≡ many) ⊎ (end ≡ start + limit)

-- the numbers at these places replaced
abbrev pub set_places : List ℕ → List ℕ → ℕ → List ℕ
set_places classes [] class = classes
set_places classes (place ∷ places) class = set_places (slice_set classes place class) places class

-- the same but for the classes at these places
pub record Moves (old new : Wiring) (places : List ℕ) (class : ℕ) : Type 0 where
  pub classes : new.classes.items ≡ set_places old.classes.items places class
  pub reads : new.reads ≡ old.reads
  pub first : new.first ≡ old.first
  pub high : new.high ≡ old.high
  pub low : new.low ≡ old.low

pub record PutsBehind (r : Parts) (old new : Wiring) (class : ℕ) (group : List ℕ) (input : ℕ) : Type 0 where
  pub middle : Wiring
  pub driven : ℕ
  pub row : PutsRow r old middle class input driven
  pub moved : Moves middle new group driven

-- groups of sinks behind gates, one after the other; the inputs that were put in stand behind those so far
pub data PutsGroups (r : Parts) (limit class : ℕ) : Wiring → List ℕ → List ℕ → Wiring → List ℕ → Type 0 where
  none : {v : Wiring} {inputs : List ℕ} → PutsGroups r limit class v [] inputs v inputs
  one : {v w u : Wiring} {group rest inputs all : List ℕ} {input : ℕ}
      → 0 < length group → length group ≤ limit → (rest ≡ []) ⊎ (length group ≡ limit)
      → PutsBehind r v w class group input → PutsGroups r limit class w rest (inputs ++ input ∷ []) u all
      → PutsGroups r limit class v (group ++ rest) inputs u all

-- rounds on one class while it has more sinks than that
pub data LimitsClass (r : Parts) (limit class : ℕ) : Wiring → List ℕ → Wiring → Type 0 where
  few : {v : Wiring} {sinks : List ℕ} → length sinks ≤ limit → LimitsClass r limit class v sinks v
  many : {v w u : Wiring} {sinks inputs : List ℕ} → limit < length sinks → PutsGroups r limit class v sinks [] w inputs
      → LimitsClass r limit class w inputs u → LimitsClass r limit class v sinks u

-- each class in turn, from this one on
pub data LimitsAll (r : Parts) (limit : ℕ) : ℕ → List (Vec ℕ) → Wiring → Wiring → Type 0 where
  done : {class : ℕ} {v : Wiring} → LimitsAll r limit class [] v v
  more : {class : ℕ} {v w u : Wiring} {sinks : Vec ℕ} {rest : List (Vec ℕ)}
      → LimitsClass r limit class v sinks.items w → LimitsAll r limit (suc class) rest w u → LimitsAll r limit class (sinks ∷ rest) v u
