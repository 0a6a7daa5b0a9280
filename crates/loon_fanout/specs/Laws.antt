-- What is true of each netlist that is limited.
use Rattle.std.specs.Prelude.{◌≡◌, ◌≢◌, ◌⊎◌, ℕ, ◌<◌, ◌≤◌, Bool, List, [], ◌∷◌, ◌++◌, Some, length, map, if◌then◌else◌}
use Rattle.std.specs.List.{list_any}
use Rattle.vlsi_base.specs.declared.name.Name.{Name}
use Rattle.vlsi_base.specs.declared.name.Terminal.{Terminal}
use Rattle.vlsi_base.specs.Names.{vdd, vss}
use Rattle.vlsi_base.specs.Member.{In}
use Rattle.bool_expr.specs.Expression.{Expression, val}
use Rattle.machine_core.specs.Machine.{Machine, names_of}
use Rattle.cell_model.specs.Cell.{Cell, gate, pin_ports, cell_inputs}
use Rattle.cell_model.specs.Library.{Library, cell_of, IsUsable}
use Rattle.cell_pins.specs.Pins.{all_ports}
use Rattle.cell_pins.specs.Table.{IsTableOf}
use Rattle.cell_checks.specs.Checked.{IsChecked as HasPassed}
use Rattle.net_core.specs.declared.pins.ModelPins.{ModelPins}
use Rattle.net_core.specs.Places.{IsThere}
use Rattle.net_core.specs.Netlist.{Instance, Netlist as InMemory, IsNetlist}
use Rattle.net_core.specs.Checks.{Fits, Passes}
use Rattle.net_meaning.specs.Netlist.{AbstractNetlist}
use Rattle.net_meaning.specs.Agreement.{register_instance}
use Rattle.net_meaning.specs.Well.{buffer_instance}
use Rattle.net_theory.specs.Sources.{Source, node, Values, Roots, Sourced, Shows}
use Rattle.net_theory.specs.Split.{IsSplit}
use Rattle.net_right.specs.View.{member_of}
use Rattle.net_right.specs.Condition.{AreTogether}
use Rattle.loon_fanout.specs.Sinks.{Wired, sinks, is_same_owner, is_same_terminal}
use Rattle.loon_fanout.specs.Wired.{with_group}
use Rattle.loon_wiring.specs.Repeaters.{Repeater}
use Rattle.loon_fanout.specs.Limited.{IsLimited, IsBuffered, IsOfCells, StaysRight}

-- a gate of this name, with the pins of its cell
abbrev pub gate_named : Cell → List ℕ → Instance
gate_named c name = record { name = name; model = c.name; pins = names_of (all_ports c) }

-- no net has more sinks than that; the ports are the same, and behind the old instances stand gates of these names
pub record StaysBeside (l : Library) (limit : ℕ) (b : Repeater) (names : List (List ℕ)) (n k : Wired) : Type 0 where
  pub few : (class : ℕ) → length (sinks l k class) ≤ limit
  pub ports : k.ports ≡ n.ports
  pub instances : k.instances ≡ n.instances ++ map (gate_named b.cell) names

abbrev pub LimitedStaysBeside : Type 0
LimitedStaysBeside =
    (l : Library) (limit : ℕ) (b : Repeater) (names : List (List ℕ)) (n k : Wired) → IsLimited l limit b names n k → StaysBeside l limit b names n k

-- ---- what one buffer keeps

-- a netlist with a class for each terminal, as one that layouts give
abbrev pub as_netlist : Wired → AbstractNetlist
as_netlist w = record { ports = map (λ p. p.name) w.ports; instances = map member_of w.instances; classes = w.count; class = w.class }

abbrev pub sourced : Wired → (ℕ → Source) → (ℕ → ℕ) → Sourced
sourced w source rank = record { netlist = as_netlist w; source = source; rank = rank }

-- a gate of one input that gives it; its pins are no supplies
pub record IsOneGate (l : Library) (c : Cell) : Type 0 where
  pub found : cell_of l c.name ≡ Some c
  pub usable : IsUsable c
  pub expr : Expression
  pub is_gate : c.function ≡ gate expr
  pub one : length (cell_inputs c) ≡ 1
  pub same : (v : Bool) → val expr (v ∷ []) ≡ v
  pub signals : (name : Name) → In name (names_of (pin_ports c)) → (name ≢ vdd) × (name ≢ vss)

abbrev pub is_in : List Terminal → Terminal → Bool
is_in group t = list_any (is_same_terminal t) group

-- a register loads the new node where a sink of its instance is in the group
abbrev pub roots_after : Roots → List Terminal → ℕ → Roots
roots_after r group fresh = record {
  output = r.output;
  load = λ x. if list_any (λ t. is_same_owner t.instance (Some (register_instance x))) group then fresh else r.load x;
}

-- A buffer of a new name is put in behind a class that shows a node, and some of the sinks of that class behind it: the class is
-- split, so what the netlist shows is shown again, and means the same.
abbrev pub GroupSplits : Type 0
GroupSplits =
    (w : Wired) (source : ℕ → Source) (rank : ℕ → ℕ) (l : Library) (m : Machine) (f : Values) (r : Roots) → Shows (sourced w source rank) l m f r
    → (c : Cell) → IsOneGate l c → (name : List ℕ) (j : ℕ) → name ≡ buffer_instance j → ((i : Instance) → In i w.instances → i.name ≢ name)
    → (k a fresh : ℕ) → k < w.count → source k ≡ node a → (group : List Terminal) → ((t : Terminal) → In t group → In t (sinks l w k))
    → IsSplit (sourced w source rank) (as_netlist (with_group c w k (name ∷ []) group)) l m (is_in group) a fresh r (roots_after r group fresh)

-- ---- a netlist that is limited stays right

-- Where a netlist of usable cells of a checked library is right for a machine, it still is once its nets are limited: it has the
-- machine's ports, each class has one driver, and it behaves as the machine does.
abbrev pub BufferedStaysRight : Type 0
BufferedStaysRight =
    (tracks : Bool) (n : InMemory) (l : Library) (limit : ℕ) (r : InMemory) → HasPassed tracks l → IsNetlist n → IsNetlist r
    → IsOfCells n l → IsBuffered n l limit r → StaysRight n l r

-- ---- a netlist that is limited passes its checks

-- each instance's pins of supplies are in the classes of the ports of their names
abbrev pub IsTied : InMemory → Type 0
IsTied n = (i : Instance) (supply : Name) → IsThere n.instances i → (supply ≡ vdd) ⊎ (supply ≡ vss) → AreTogether n supply i.name

-- Where a netlist of usable cells of a checked library, whose supplies are tied, fits the table of their pins and has no fault, so
-- it is once its nets are limited.
abbrev pub BufferedPasses : Type 0
BufferedPasses =
    (tracks all : Bool) (n : InMemory) (l : Library) (limit : ℕ) (r : InMemory) (table : List ModelPins) → HasPassed tracks l → IsNetlist n
    → IsNetlist r → IsOfCells n l → IsTied n → IsTableOf l all table → Fits n table → Passes table n → IsBuffered n l limit r
    → Fits r table × Passes table r
