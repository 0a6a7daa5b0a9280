use Rattle.std.proofs.Common.{◌≡◌, ◌++◌, map, take}
use Rattle.fsm_print.proofs.words.taken.Given as goal

abbrev pub invariant-loop-port : goal.invariant-loop-port
invariant-loop-port l = l.texts.items ≡ map (λ p. p.name.text) (take l.port-index l.ports)

abbrev pub invariant-loop-state : goal.invariant-loop-state
invariant-loop-state l = l.texts.items ≡ map (λ p. p.name.text) l.ports ++ map (λ s. s.text) (take l.state-index l.states)
