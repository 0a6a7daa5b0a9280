-- One inverter, with any usable cell that is one.
use Rattle.std.specs.Prelude.{◌≡◌, ◌≢◌, ℕ, List, [], ◌∷◌, Option, None, Some, codes, if◌then◌else◌}
use Prim.Native.Nat.{zero, suc}
use Rattle.vlsi_base.specs.declared.name.Name.{Name}
use Rattle.vlsi_base.specs.declared.name.Port.{Port}
use Rattle.vlsi_base.specs.declared.name.Dir.TheVariants as dir
use Rattle.bool_expr.specs.Expression.{inverse, variable}
use Rattle.machine_core.specs.Named.{is_same_name}
use Rattle.machine_core.specs.Machine.{Machine}
use Rattle.cell_model.specs.Cell.{pin_ports, Cell, gate}
use Rattle.cell_model.specs.Library.{IsUsable}
use Rattle.net_meaning.specs.Netlist.{Member}
use Rattle.vlsi_base.specs.Names.{scalar, vdd, vss}
use Rattle.net_theory.specs.Sources.{Source, high, low, node, Sourced}
use Rattle.graph_theory.specs.Graph.{Graph, inv}
use Rattle.graph_theory.specs.Maps.{Maps}

-- an input and an output
abbrev pub two_ports : List ℕ → List ℕ → List Port
two_ports a z = record { name = scalar a; dir = dir.In } ∷ record { name = scalar z; dir = dir.Out } ∷ []

-- the machine whose output is not its input, and its graph
abbrev pub machine : List ℕ → List ℕ → Machine
machine i o = record {
  name = codes "block";
  ports = two_ports i o;
  clock = None;
  vars = scalar i ∷ scalar o ∷ [];
  equations = record { name = scalar o; expr = inverse (variable 0) } ∷ [];
  registers = [];
}

abbrev pub graph : Graph
graph = record { nodes = inv 0 ∷ []; outputs = 1 ∷ []; loads = [] }

-- the classes: vss, vdd, the input with pin a, and the output with pin z
abbrev pub class_by : Name → List ℕ → ℕ
class_by name input =
    if is_same_name name vss then 0 else if is_same_name name vdd then 1 else if is_same_name name (scalar input) then 2 else 3

abbrev pub input_of : Option (List ℕ) → List ℕ → List ℕ → List ℕ
input_of None i a = i
input_of (Some owner) i a = a

-- the one instance, and what gives each class its bit
abbrev pub member : Cell → Member
member c = record { name = codes "g0"; model = c.name }

abbrev pub source : ℕ → Source
source zero = low
source (suc zero) = high
source (suc (suc zero)) = node 0
source (suc (suc (suc k))) = node 1

-- the netlist
abbrev pub sourced : List ℕ → List ℕ → List ℕ → Cell → Sourced
sourced i o a c = record {
  netlist = record {
    ports = vss ∷ vdd ∷ scalar i ∷ scalar o ∷ [];
    instances = member c ∷ [];
    classes = 4;
    class = λ t. class_by t.pin (input_of t.instance i a);
  };
  source = source;
  rank = λ k. k;
}

-- two names that are apart, and no supplies
pub record AreProper (a b : List ℕ) : Type 0 where
  pub apart : a ≢ b
  pub first_vdd : a ≢ codes "vdd"
  pub first_vss : a ≢ codes "vss"
  pub second_vdd : b ≢ codes "vdd"
  pub second_vss : b ≢ codes "vss"

-- its netlist maps its graph
abbrev pub InverterMaps : Type 0
InverterMaps =
    (i o a z : List ℕ) (c : Cell) → AreProper i o → AreProper a z → IsUsable c
    → pin_ports c ≡ two_ports a z → c.function ≡ gate (inverse (variable 0))
    → Maps (sourced i o a c) (record { cells = c ∷ [] }) (machine i o) graph
