use Rattle.std.proofs.Common.{◌≡◌, map, take}
use Rattle.machine_core.specs.View.{register_view}
use Rattle.vbe_free.proofs.copying.copied_registers.Given as goal

abbrev pub invariant-loop-register : goal.invariant-loop-register
invariant-loop-register l = map register_view l.made.items ≡ map register_view (take l.register-index l.registers)
