use Rattle.std.proofs.Common.{◌≡◌, not, filter, take}
use Rattle.machine_core.specs.Machine.{is_input, names_of}
use Rattle.fsm_walk.proofs.step.output_names.Given as goal

abbrev pub invariant-loop-port : goal.invariant-loop-port
invariant-loop-port l = l.names.items ≡ names_of (filter (λ p. not (is_input p.dir)) (take l.port-index l.port-items))
