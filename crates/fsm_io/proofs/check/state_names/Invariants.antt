use Rattle.std.proofs.Common.{◌≡◌, map, take}
use Rattle.source_checks.specs.Symbols.{scalar}
use Rattle.fsm_io.proofs.check.state_names.Given as goal

abbrev pub invariant-loop-state : goal.invariant-loop-state
invariant-loop-state l = l.made.items ≡ map (λ s. scalar s.text) (take l.state-index l.states)
