-- A netlist by its ports, its instances and a class for each terminal.
use Rattle.std.specs.Prelude.{◌≡◌, ◌↔◌, ℕ, ◌^◌, ◌<◌, List, [], map, length}
use Rattle.std.specs.List.{All}
use Rattle.vlsi_base.specs.declared.name.Terminal.{Terminal}
use Rattle.net_core.specs.Netlist.{Instance, Netlist, terminals_of, AreInOrder, HasClass}
use Rattle.net_core.specs.Places.{NoneTwice}
use Rattle.net_core.specs.Joins.{Draft}
use Rattle.loon_fanout.specs.Sinks.{class_among}
use Rattle.scan_build.specs.declared.sketch.Entry.{Entry}
use Rattle.scan_build.specs.declared.sketch.Sketch.{Sketch}

abbrev pub instance_by : Entry → Instance
instance_by e = record { name = e.name; model = e.model; pins = e.pins }

abbrev pub sketch_terminals : Sketch → List Terminal
sketch_terminals s = terminals_of s.ports.items (map instance_by s.entries.items)

-- Ports and pins stand in the order of names, names of instances differ, instances and terminals can be numbered by 32 bits, and each
-- terminal has a class below the number.
pub record IsSketch (s : Sketch) : Type 0 where
  pub order : AreInOrder (map (λ p. p.name) s.ports.items)
  pub pins : All (λ e. AreInOrder e.pins) s.entries.items
  pub names : NoneTwice (map (λ e. e.name) s.entries.items)
  pub many : length s.entries.items < 2 ^ 32
  pub few : length (sketch_terminals s) < 2 ^ 32
  pub each : length s.classes.items ≡ length (sketch_terminals s)
  pub inside : All (λ class. class < s.count) s.classes.items

-- the netlist of a sketch: two terminals have one class exactly where they have one in the sketch
pub record IsBuilt (s : Sketch) (r : Netlist) : Type 0 where
  pub name : r.name ≡ s.name
  pub ports : r.ports ≡ s.ports.items
  pub instances : r.instances ≡ map instance_by s.entries.items
  pub classes : (a b : Terminal) (j k : ℕ) → HasClass r a j → HasClass r b k
      → (j ≡ k) ↔ (class_among (sketch_terminals s) s.classes.items a ≡ class_among (sketch_terminals s) s.classes.items b)

-- instances can be put into a draft that has none
pub record IsAddable (d : Draft) (entries : List Entry) : Type 0 where
  pub none : d.instances ≡ []
  pub pins : All (λ e. AreInOrder e.pins) entries
  pub names : NoneTwice (map (λ e. e.name) entries)
  pub many : length entries < 2 ^ 32
  pub few : length (terminals_of d.ports (map instance_by entries)) < 2 ^ 32
