use Rattle.std.proofs.Common.{◌+◌, ◌-◌, [], length, map, take, drop}
use Rattle.machine_core.specs.View.{register_view}
use Rattle.subject_table.specs.Rules.{Load}
use Rattle.subject_table.specs.Makes.{Leads}
use Rattle.subject_graph.specs.Stages.{Loads}
use Rattle.subject_graph.proofs.loads.load_numbers.Given as goal

abbrev pub invariant-loop-k : goal.invariant-loop-k
invariant-loop-k l =
    Loads l.fn.table l.table l.numbers (l.fn.table.held - length l.registers) (map register_view (take l.k l.registers)) l.loads.items
    × Leads l.fn.table l.table (Load (map register_view l.registers) l.numbers (l.fn.table.held - length l.registers) [])
    (Load (map register_view (drop l.k l.registers)) l.numbers (l.fn.table.held - length l.registers + l.k) l.loads.items)
