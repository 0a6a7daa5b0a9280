use Rattle.std.proofs.Common.{◌≡◌, map, length}
use Rattle.bool_expr.specs.View.{view}
use Rattle.machine_core.specs.View.{equation_view}
use Rattle.fsm_machine.specs.MachineOf.{named}
use Rattle.syf_machine.proofs.machine.equations.Given as goal

-- an equation for each expression so far
abbrev pub invariant-loop-expr : goal.invariant-loop-expr
invariant-loop-expr l = record {
  each : length l.equations.items ≡ length l.yielded;
  same : map equation_view l.equations.items ≡ named l.names (map view l.yielded);
}
