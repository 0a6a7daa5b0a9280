use Rattle.std.proofs.Common.{◌≡◌, [], map, drop}
use Rattle.fsm_io.specs.Known.{texts}
use Rattle.fsm_io.specs.States.{bad_states}
use Rattle.fsm_io.specs.Pieces.{symbol_texts, first_use, mention_of}
use Rattle.fsm_io.proofs.states.bad_state.Given as goal

abbrev pub invariant-loop-mention : goal.invariant-loop-mention
invariant-loop-mention l =
    first_use (bad_states (texts l.declared) l.roles.next.now (symbol_texts l.listed) (map mention_of (drop l.mention-index l.mentions)))
    ≡ first_use (bad_states (texts l.declared) l.roles.next.now [] (map mention_of l.mentions))
