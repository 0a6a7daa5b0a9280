use Rattle.std.proofs.Common.{◌≡◌, ◌++◌, drop}
use Rattle.std.specs.Option.{option_copied}
use Rattle.vlsi_model.specs.Numbered.{input_names}
use Rattle.vlsi_model.proofs.ports.push_inputs.Given as goal

abbrev pub invariant-loop-port : goal.invariant-loop-port
invariant-loop-port l = l.names.items ++ input_names (option_copied l.clock) (drop l.port-index l.ports) ≡ l.initial.names.items ++ input_names (option_copied l.clock) l.ports
