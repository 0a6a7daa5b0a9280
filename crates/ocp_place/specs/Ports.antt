-- The parts of a placement, as they are kept in memory.
use Rattle.std.specs.Prelude.{◌≡◌, ◌≤◌, ◌<◌, ◌^◌, ℕ, Bool, List, [], ◌∷◌, ◌++◌, map, length, if◌then◌else◌}
use Rattle.std.specs.List.{All}
use Rattle.std.specs.Global.{Vec}
use Rattle.vlsi_base.specs.declared.name.Name.{Name}
use Rattle.vlsi_base.specs.declared.name.Port.{Port}
use Rattle.vlsi_base.specs.Names.{vdd, vss}
use Rattle.machine_core.specs.Named.{is_same_name}
use Rattle.cell_model.specs.Access.{Point}
use Rattle.ocp_place.specs.declared.row.Site.{Site as Placed}
use Rattle.ocp_place.specs.declared.place.PortClasses.{PortClasses}
use Rattle.ocp_place.specs.Nets.{is_signal}
use Rattle.ocp_place.specs.Reaches.{site_of}
use Rattle.ocp_place.specs.Placed.{InRow}

-- the classes of those ports that are no supplies, where each port has its class at its place
abbrev pub signal_classes : List Port → List ℕ → List ℕ
signal_classes [] classes = []
signal_classes (p ∷ ps) [] = []
signal_classes (p ∷ ps) (c ∷ cs) = if is_signal p.name then c ∷ signal_classes ps cs else signal_classes ps cs

-- the class of the last port of this name, after one that stood before; there is at most one
abbrev pub class_named : (Port → Bool) → ℕ → List Port → List ℕ → ℕ
class_named test before [] classes = before
class_named test before (p ∷ ps) [] = before
class_named test before (p ∷ ps) (c ∷ cs) = class_named test (if test p then c else before) ps cs

-- the class of one more port, where its name says
pub record IsPutIn (old new : PortClasses) (name : Name) (class : ℕ) : Type 0 where
  pub high : new.high ≡ (if is_same_name name vdd then class else old.high)
  pub low : new.low ≡ (if is_same_name name vss then class else old.low)
  pub signals : new.signals.items ≡ old.signals.items ++ (if is_signal name then class ∷ [] else [])

pub record IsSplit (ports : List Port) (classes : List ℕ) (s : PortClasses) : Type 0 where
  pub high : s.high ≡ class_named (λ p. is_same_name p.name vdd) 0 ports classes
  pub low : s.low ≡ class_named (λ p. is_same_name p.name vss) 0 ports classes
  pub signals : s.signals.items ≡ signal_classes ports classes

-- the points of a group of sites
abbrev pub points_of : Vec Placed → List Point
points_of group = map (λ s. (site_of s).1) group.items

abbrev pub in_row : List ℕ → List ℕ → List (Vec Placed) → List ℕ → ℕ → ℕ → ℕ → Bool → List (Vec ℕ) → List ℕ → InRow
in_row ports drivers ends starts width high low tracks rows row_numbers = record {
  ports = ports;
  drivers = drivers;
  ends = map points_of ends;
  starts = starts;
  width = width;
  high = high;
  low = low;
  tracks = tracks;
  rows = map (λ v. v.items) rows;
  row_numbers = row_numbers;
}

-- no point lies further than the coordinates here
abbrev pub AreNear : List (Vec Placed) → Type 0
AreNear ends = All (λ group. All (λ s. (s.x ≤ 100000000000000) × (s.y ≤ 100000000000000)) group.items) ends

-- what is known of each placement: classes are among those that have points, few enough to have numbers of 32 bits, and no
-- coordinate is large
pub record IsSound (signals outputs : List ℕ) (ends : List (Vec Placed)) (begins : List ℕ) (wide : ℕ) : Type 0 where
  pub ports : All (λ c. c < length ends) signals
  pub drivers : All (λ c. c < length ends) outputs
  pub few : length ends < 2 ^ 32
  pub near : AreNear ends
  pub starts : All (λ x. x ≤ 100000000000000) begins
  pub width : wide ≤ 70000000000000
