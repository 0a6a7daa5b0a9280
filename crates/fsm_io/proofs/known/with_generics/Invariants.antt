use Rattle.std.proofs.Common.{◌≡◌, ◌++◌, drop}
use Rattle.fsm_io.specs.Known.{generic_symbols}
use Rattle.fsm_io.proofs.known.with_generics.Given as goal

abbrev pub invariant-loop-group : goal.invariant-loop-group
invariant-loop-group l = l.made ++ generic_symbols (drop l.group-index l.groups) ≡ l.initial.made ++ generic_symbols l.groups
