-- When the roots of a table of nodes are those of a machine.
use Rattle.std.specs.Prelude.{◌≡◌, ℕ, ◌+◌, Bool, List, map, length, if◌then◌else◌}
use Rattle.vlsi_base.specs.declared.name.Name.{Name}
use Rattle.bool_expr.specs.Expression.{val}
use Rattle.machine_core.specs.Machine.{Machine, Register, inputs, outputs}
use Rattle.machine_core.specs.Built.{built}
use Rattle.machine_core.specs.Checked.{IsChecked}
use Rattle.net_theory.specs.Sources.{IsNumber}
use Rattle.graph_theory.specs.Graph.{held_count, IsGraphOf}
use Rattle.subject_table.specs.declared.table.Table.{Table}
use Rattle.subject_table.specs.View.{kinds}
use Rattle.subject_table.specs.Grows.{IsSound, value}

-- each output has the number of its name, among the machine's names
pub record TakesOutputs (m : Machine) (numbers roots : List ℕ) : Type 0 where
  pub count : length roots ≡ length (outputs m)
  pub each : (k : ℕ) (name : Name) → IsNumber (outputs m) k name
      → (j : ℕ) × IsNumber m.vars j name × ((a : ℕ) × IsNumber numbers j a × IsNumber roots k a)

-- each register has a number with the bit that it loads
pub record TakesLoads (m : Machine) (t : Table) (numbers loads : List ℕ) : Type 0 where
  pub count : length loads ≡ length m.registers
  pub each : (k : ℕ) (r : Register) (a : ℕ) → IsNumber m.registers k r → IsNumber loads k a
      → (w : List Bool) → length w ≡ t.held
      → value t w a
      ≡ (if val r.enable (map (value t w) numbers) then val r.next (map (value t w) numbers) else value t w (length (inputs m) + k))

-- where each name's number has its value, and the roots are taken so, the table is a graph of the machine
abbrev pub TableIsGraph : Type 0
TableIsGraph =
    (m : Machine) (t : Table) (numbers roots loads : List ℕ) → IsChecked m → t.held ≡ held_count m → IsSound t
    → ((w : List Bool) → length w ≡ t.held → map (value t w) numbers ≡ built w m.equations)
    → TakesOutputs m numbers roots → TakesLoads m t numbers loads
    → IsGraphOf m (record { nodes = kinds t; outputs = roots; loads = loads })
