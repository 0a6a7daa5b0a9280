use Rattle.std.proofs.Common.{◌≡◌, ◌++◌, filter, drop}
use Rattle.source_checks.specs.Symbols.{port_symbols}
use Rattle.fsm_text.specs.Chains.{is_out}
use Rattle.fsm_text.proofs.counting.outputs.Given as goal

abbrev pub invariant-loop-k : goal.invariant-loop-k
invariant-loop-k l = port_symbols (filter is_out l.groups) ≡ l.table ++ port_symbols (filter is_out (drop l.k l.groups))
