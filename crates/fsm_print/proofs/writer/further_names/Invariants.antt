use Rattle.std.proofs.Common.{◌≡◌, ◌++◌}
use Rattle.spell_theory.specs.Layout.{text_of}
use Rattle.fsm_print.specs.Layout.{comma, behind}
use Rattle.fsm_print.specs.Written.{texts_of}
use Rattle.fsm_print.proofs.Texts.{names_left}
use Rattle.fsm_print.proofs.writer.further_names.Given as goal

-- what is written, and the text of the names that are left
abbrev pub invariant-loop-name : goal.invariant-loop-name
invariant-loop-name l = l.out ++ text_of (names_left comma (λ n. n.text) l.names l.name-index) ≡ l.fn.out ++ text_of (behind comma (texts_of l.names))
