use Rattle.std.proofs.Common.{map, take}
use Rattle.machine_core.specs.View.{register_view}
use Rattle.asimut_sim.specs.Flat.{ComputesLoads}
use Rattle.asimut_sim.proofs.layout.lay_registers.Given as goal

abbrev pub invariant-loop-register : goal.invariant-loop-register
invariant-loop-register l = ComputesLoads l.fn.program l.program l.vars l.loads.items (map register_view (take l.register-index l.registers))
