use Rattle.std.proofs.Common.{◌≡◌, map, take}
use Rattle.fsm_io.specs.Elaboration.{state_number}
use Rattle.fsm_io.specs.Pieces.{symbol_texts}
use Rattle.fsm_io.proofs.bits.Frame.numbers_of.Given as goal

abbrev pub invariant-loop-name : goal.invariant-loop-name
invariant-loop-name l = l.made.items ≡ map (λ n. state_number (symbol_texts l.self.states.now) n.text) (take l.name-index l.names)
