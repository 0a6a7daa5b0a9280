use Rattle.std.proofs.Common.{◌≡◌, ◌++◌, map}
use Rattle.spell_theory.specs.Layout.{text_of}
use Rattle.fsm_print.specs.Layout.{bar, behind, state_text}
use Rattle.fsm_print.proofs.Texts.{names_left}
use Rattle.fsm_print.proofs.statements.Writer.further_states.Given as goal

-- what is written, and the text of the states that are left
abbrev pub invariant-loop-state : goal.invariant-loop-state
invariant-loop-state l =
    l.out ++ text_of (names_left bar (state_text l.self.words.now) l.states l.state-index) ≡ l.fn.out ++ text_of (behind bar (map (state_text l.self.words.now) l.states))
