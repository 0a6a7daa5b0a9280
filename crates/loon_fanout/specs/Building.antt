-- A netlist of instances and of a class for each terminal.
use Rattle.std.specs.Prelude.{◌≡◌, ◌↔◌, ℕ, ◌^◌, ◌<◌, List, [], ◌++◌, map, length, slice_index_or}
use Rattle.std.specs.List.{All, zip}
use Rattle.vlsi_base.specs.declared.name.Terminal.{Terminal}
use Rattle.net_core.specs.Netlist.{Instance, Netlist as InMemory, terminals_of, AreInOrder, HasClass}
use Rattle.net_core.specs.Places.{NoneTwice}
use Rattle.net_core.specs.Joins.{Draft, terminal_at}
use Rattle.loon_wiring.specs.declared.repeater.Repeater.{Repeater as Parts}
use Rattle.loon_fanout.specs.declared.build.Entry.{Entry}
use Rattle.loon_fanout.specs.declared.build.Sketch.{Sketch}
use Rattle.loon_fanout.specs.Sinks.{class_among}

abbrev pub instance_by : Entry → Instance
instance_by e = record { name = e.name; model = e.model; pins = e.pins }

abbrev pub gate_by : Parts → List ℕ → Instance
gate_by r name = record { name = name; model = r.model; pins = r.pins }

abbrev pub with_instances : Draft → List Instance → Draft
with_instances d more = record d { instances = d.instances ++ more }

abbrev pub with_joins : Draft → List (Terminal × Terminal) → Draft
with_joins d more = record d { joins = d.joins ++ more }

-- instances can be put into a draft that has none
pub record IsAddable (d : Draft) (entries : List Entry) : Type 0 where
  pub none : d.instances ≡ []
  pub pins : All (λ e. AreInOrder e.pins) entries
  pub names : NoneTwice (map (λ e. e.name) entries)
  pub many : length entries < 2 ^ 32
  pub few : length (terminals_of d.ports (map instance_by entries)) < 2 ^ 32

-- the class of each place has a head, which is in it
abbrev pub AreHeads : List ℕ → List ℕ → Type 0
AreHeads classes heads =
    (i : ℕ) → i < length classes
    → (slice_index_or classes i 0 < length heads)
    × (slice_index_or heads (slice_index_or classes i 0) 0 < length classes)
    × (slice_index_or classes (slice_index_or heads (slice_index_or classes i 0) 0) 0 ≡ slice_index_or classes i 0)

-- each terminal with the head of its class
abbrev pub joins_of : List Terminal → List ℕ → List ℕ → List (Terminal × Terminal)
joins_of ts classes heads = map (λ p. (p.0, terminal_at ts (slice_index_or heads p.1 0))) (zip ts classes)

abbrev pub sketch_terminals : InMemory → Sketch → List Terminal
sketch_terminals n s = terminals_of n.ports (map instance_by s.entries.items)

pub record IsBuildable (n : InMemory) (s : Sketch) : Type 0 where
  pub order : AreInOrder (map (λ p. p.name) n.ports)
  pub pins : All (λ e. AreInOrder e.pins) s.entries.items
  pub names : NoneTwice (map (λ e. e.name) s.entries.items)
  pub many : length s.entries.items < 2 ^ 32
  pub few : length (sketch_terminals n s) < 2 ^ 32
  pub each : length s.classes.items ≡ length (sketch_terminals n s)
  pub inside : All (λ class. class < s.count) s.classes.items

-- two terminals have one class exactly where they have one in the sketch
pub record IsBuilt (n : InMemory) (s : Sketch) (r : InMemory) : Type 0 where
  pub name : r.name ≡ n.name
  pub ports : r.ports ≡ n.ports
  pub instances : r.instances ≡ map instance_by s.entries.items
  pub classes : (a b : Terminal) (j k : ℕ) → HasClass r a j → HasClass r b k
      → (j ≡ k) ↔ (class_among (sketch_terminals n s) s.classes.items a ≡ class_among (sketch_terminals n s) s.classes.items b)
