-- What the stages of a machine's graph give.
use Rattle.std.specs.Prelude.{◌≡◌, ℕ, ◌+◌, ◌*◌, ◌≤◌, Bool, List, [], ◌∷◌, ◌++◌, map, length, count_by, if◌then◌else◌}
use Rattle.vlsi_base.specs.declared.name.Name.{Name}
use Rattle.bool_expr.specs.Expression.{val, size_of, IsOver}
use Rattle.machine_core.specs.Machine.{Machine, Register, outputs}
use Rattle.machine_core.specs.Size.{machine_size}
use Rattle.machine_core.specs.Built.{built}
use Rattle.net_theory.specs.Sources.{IsNumber}
use Rattle.graph_theory.specs.Graph.{Node, is_logic, held_count, IsGraphOf}
use Rattle.subject_table.specs.declared.table.Node.{Node as Kind}
use Rattle.subject_table.specs.declared.table.Table.{Table}
use Rattle.subject_table.specs.View.{node_view, kinds, end_of}
use Rattle.subject_table.specs.Grows.{IsSound, AreSorted, AreBelow, value, weight}
use Rattle.subject_table.specs.Rules.{Solve}
use Rattle.subject_table.specs.Makes.{Makes}
use Rattle.cell_model.specs.Access.{count_to}
use Rattle.subject_graph.specs.Drawn.{IsDrawn}
use Rattle.subject_graph.specs.Subject.{roots_apart, inverters_apart}

-- each of a machine's names has a number with its value, which is made by the table from no nodes at all
pub record IsSolved (m : Machine) (t : Table) (numbers : List ℕ) : Type 0 where
  pub held : t.held ≡ held_count m
  pub sound : IsSound t
  pub cost : count_by is_logic (kinds t) ≤ weight m.equations
  pub known : AreBelow (end_of t) numbers
  pub values : (w : List Bool) → length w ≡ t.held → map (value t w) numbers ≡ built w m.equations
  pub start : Table
  pub empty : kinds start ≡ []
  pub starts : start.held ≡ held_count m
  pub made : Makes start t (Solve m.equations (count_to (held_count m))) numbers

-- a name's number: both stand at one place
abbrev pub IsNumberOf : List Name → List ℕ → Name → ℕ → Type 0
IsNumberOf names numbers name a = (j : ℕ) × IsNumber names j name × IsNumber numbers j a

-- the bit that a register loads, from the names' values and its own
abbrev pub load_value : Register → List Bool → Bool → Bool
load_value r w own = if val r.enable w then val r.next w else own

-- at most how much of logic that is, and that of all of these registers
abbrev pub load_size : Register → ℕ
load_size r = 4 + (size_of r.next + size_of r.enable)

abbrev pub load_weight : List Register → ℕ
load_weight [] = 0
load_weight (r ∷ rest) = load_size r + load_weight rest

-- what a register loads reads n names
abbrev pub LoadsOver : ℕ → Register → Type 0
LoadsOver n r = IsOver r.next n × IsOver r.enable n

abbrev pub EachLoadsOver : ℕ → List Register → Type 0
EachLoadsOver n registers = (k : ℕ) (r : Register) → IsNumber registers k r → LoadsOver n r

-- Each register, the first of which has this number, has a number with the bit that it loads.
pub record Loads (t u : Table) (numbers : List ℕ) (first : ℕ) (registers : List Register) (loads : List ℕ) : Type 0 where
  pub held : u.held ≡ t.held
  pub more : List Node
  pub nodes : kinds u ≡ kinds t ++ more
  pub sound : IsSound u
  pub cost : count_by is_logic (kinds u) ≤ count_by is_logic (kinds t) + load_weight registers
  pub known : AreBelow (end_of u) loads
  pub count : length loads ≡ length registers
  pub each : (k : ℕ) (r : Register) (a : ℕ) → IsNumber registers k r → IsNumber loads k a
      → (w : List Bool) → length w ≡ t.held → value u w a ≡ load_value r (map (value t w) numbers) (value t w (first + k))

-- the table is a graph of the machine, with these numbers of outputs and of what registers load, and has the nodes that they become
pub record IsRooted (m : Machine) (t : Table) (plain loads : List ℕ) : Type 0 where
  pub held : t.held ≡ held_count m
  pub sorted : AreSorted (kinds t)
  pub cost : count_by is_logic (kinds t) + 2 * length plain ≤ machine_size m
  pub count : length plain ≡ length (outputs m)
  pub each : length loads ≡ length m.registers
  pub known_outputs : AreBelow (end_of t) plain
  pub known_loads : AreBelow (end_of t) loads
  pub graph : IsGraphOf m (record { nodes = kinds t; outputs = plain; loads = loads })
  pub drawn : IsDrawn m (kinds t) plain loads

-- behind the nodes that were there stand the further inverters of outputs, and these are the roots
pub record ShowsBehind (old new : List Kind) (first held : ℕ) (plain roots : List ℕ) : Type 0 where
  pub nodes : map node_view new ≡ map node_view old ++ inverters_apart first (held + length old) [] plain
  pub shown : roots ≡ roots_apart first (held + length old) [] plain
