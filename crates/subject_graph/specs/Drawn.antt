-- Which nodes a machine's graph has: those that its equations and registers become, each operator by the table.
use Rattle.std.specs.Prelude.{ℕ, ◌+◌, ◌<◌, ◌≤◌, List, [], length}
use Rattle.vlsi_base.specs.Member.{In}
use Rattle.machine_core.specs.Machine.{Machine, inputs}
use Rattle.cell_model.specs.Access.{count_to}
use Rattle.graph_theory.specs.Graph.{Node, held_count}
use Rattle.subject_table.specs.Rules.{Rule, ◌>>=◌, Gives, Solve, Load}
use Rattle.subject_table.specs.Roots.{TakesOutputs}

-- first the equations, of which inputs and registers are the first names, then what registers load: the numbers of all names, and
-- of what registers load
abbrev pub Draw : Machine → Rule (List ℕ × List ℕ)
Draw m =
    Solve m.equations (count_to (held_count m)) >>= λ numbers. Load m.registers numbers (length (inputs m)) [] >>= λ loads. Gives (numbers, loads)

-- The nodes are those that are made so, and no others. Each output has the number of its name.
pub record IsDrawn (m : Machine) (nodes : List Node) (plain loads : List ℕ) : Type 0 where
  pub numbers : List ℕ
  pub made : List ℕ
  pub draws : Draw m (held_count m) nodes (numbers, loads) made
  pub takes : TakesOutputs m numbers plain
  pub only : (x : ℕ) → held_count m ≤ x → x < held_count m + length nodes → In x made
