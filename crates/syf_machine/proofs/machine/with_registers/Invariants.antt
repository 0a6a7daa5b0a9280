use Rattle.std.proofs.Common.{◌≡◌, ◌++◌, map, take}
use Rattle.machine_core.specs.View.{register_view}
use Rattle.syf_machine.specs.Pieces.{registered}
use Rattle.syf_machine.proofs.machine.with_registers.Given as goal

abbrev pub invariant-loop-register : goal.invariant-loop-register
invariant-loop-register l = l.all.items ≡ l.fn.names.items ++ registered (map register_view (take l.register-index l.registers))
