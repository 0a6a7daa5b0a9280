-- The sinks of each class by their places.
use Rattle.std.specs.Prelude.{◌≡◌, ℕ, ◌<◌, Bool, false, ◌&&◌, ◌||◌, List, [], ◌∷◌, ◌++◌, length, map, nat_eq, slice_index_or, if◌then◌else◌}
use Prim.Native.Nat.{suc}
use Rattle.std.specs.Global.{Vec}
use Rattle.std.specs.List.{flat_map, list_any}
use Rattle.vlsi_base.specs.declared.name.Name.{Name}
use Rattle.machine_core.specs.Machine.{is_input}
use Rattle.machine_core.specs.Named.{is_same_name}
use Rattle.cell_model.specs.declared.cell.Pin.{Pin}
use Rattle.cell_model.specs.Library.{Library, cell_of}
use Rattle.net_core.specs.Netlist.{Instance, Netlist as InMemory}
use Rattle.loon_loads.specs.Sinks.{is_sink_of}

-- an input of this name is among the pins
abbrev pub is_input_among : List Pin → Name → Bool
is_input_among pins name = list_any (λ p. is_input p.port.dir && is_same_name p.port.name name) pins

-- for each pin whether it is a sink
abbrev pub pin_marks : Library → Instance → List Bool
pin_marks l i = map (is_sink_of (cell_of l i.model)) i.pins

-- for each terminal whether it is a sink
abbrev pub all_marks : Library → InMemory → List Bool
all_marks l n = map (λ p. false) n.ports ++ flat_map (pin_marks l) n.instances

-- the places of those that are marked and have the class, where the first has this place
abbrev pub marked_places : ℕ → List Bool → List ℕ → ℕ → List ℕ
marked_places place [] classes class = []
marked_places place (m ∷ marks) [] class = []
marked_places place (m ∷ marks) (k ∷ classes) class =
    if m && nat_eq k class then place ∷ marked_places (suc place) marks classes class else marked_places (suc place) marks classes class

-- one place more where it is marked
pub record AddsLoad (old new : List (Vec ℕ)) (mark : Bool) (class place : ℕ) : Type 0 where
  pub many : length new ≡ length old
  pub each : (k : ℕ) (d : Vec ℕ) → k < length old
      → (slice_index_or new k d).items ≡ (slice_index_or old k d).items ++ (if mark && nat_eq class k then place ∷ [] else [])

pub record AreLoads (marks : List Bool) (classes : List ℕ) (count : ℕ) (loads : List (Vec ℕ)) : Type 0 where
  pub many : length loads ≡ count
  pub each : (class : ℕ) (d : Vec ℕ) → class < count → (slice_index_or loads class d).items ≡ marked_places 0 marks classes class

-- the same, but for a class that has no sinks
pub record EmptiesLoad (old new : List (Vec ℕ)) (class : ℕ) : Type 0 where
  pub many : length new ≡ length old
  pub each : (k : ℕ) (d : Vec ℕ) → k < length old → (slice_index_or new k d).items ≡ (if nat_eq class k then [] else (slice_index_or old k d).items)

-- the loads of nets: the classes of the two supplies have none
pub record AreNetLoads (marks : List Bool) (classes : List ℕ) (count high low : ℕ) (loads : List (Vec ℕ)) : Type 0 where
  pub many : length loads ≡ count
  pub each : (class : ℕ) (d : Vec ℕ) → class < count
      → (slice_index_or loads class d).items ≡ (if nat_eq high class || nat_eq low class then [] else marked_places 0 marks classes class)
