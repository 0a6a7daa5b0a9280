use Rattle.std.proofs.Common.{◌≡◌, map, length}
use Rattle.bool_expr.specs.View.{view}
use Rattle.machine_core.specs.View.{register_view}
use Rattle.syf_machine.specs.Pieces.{registers_by}
use Rattle.syf_machine.proofs.machine.registers.Given as goal

-- a register for each value so far
abbrev pub invariant-loop-next : goal.invariant-loop-next
invariant-loop-next l = record {
  each : length l.registers.items ≡ length l.yielded;
  same : map register_view l.registers.items ≡ registers_by l.text 0 (map view l.yielded);
}
