use Rattle.std.proofs.Common.{◌≡◌, map}
use Rattle.vlsi_base.specs.Names.{scalar}
use Rattle.syf_machine.proofs.names.inner_names.Given as goal

abbrev pub invariant-loop-text : goal.invariant-loop-text
invariant-loop-text l = l.names.items ≡ map scalar l.yielded
