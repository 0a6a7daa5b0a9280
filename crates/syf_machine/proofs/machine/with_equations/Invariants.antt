use Rattle.std.proofs.Common.{◌≡◌, ◌++◌, map, take}
use Rattle.machine_core.specs.View.{equation_view}
use Rattle.syf_machine.specs.Pieces.{equated}
use Rattle.syf_machine.proofs.machine.with_equations.Given as goal

abbrev pub invariant-loop-equation : goal.invariant-loop-equation
invariant-loop-equation l = l.all.items ≡ l.fn.names.items ++ equated (map equation_view (take l.equation-index l.equations))
