use Rattle.std.proofs.Common.{◌+◌, ◌*◌, ◌++◌, vec_len}
use Rattle.bool_expr.specs.View.{view}
use Rattle.spell_theory.specs.Layout.{text_of}
use Rattle.vbe_print.specs.Expressions.{join, laid}
use Rattle.vbe_print.specs.Pieces.{weight}
use Rattle.vbe_print.proofs.Operands.{seen, AreLeft}
use Rattle.vbe_print.proofs.expressions.Speller.+whole.Given as goal

-- all go by the weight, and for one expression from `whole` up
abbrev pub decreases-whole : goal.decreases-whole
decreases-whole l = 8 * weight (view l.e.now)

abbrev pub decreases-enclosed : goal.decreases-enclosed
decreases-enclosed l = 8 * weight (view l.e.now) + 1

abbrev pub decreases-primary : goal.decreases-primary
decreases-primary l = 8 * weight (view l.e.now) + 2

abbrev pub decreases-operand : goal.decreases-operand
decreases-operand l = 8 * weight (view l.e.now) + 2

abbrev pub decreases-leading : goal.decreases-leading
decreases-leading l = 8 * weight (view l.e.now) + 3

abbrev pub decreases-joined : goal.decreases-joined
decreases-joined l = 8 * (weight (view l.left.now) + weight (view l.right.now)) + 4

abbrev pub decreases-choice : goal.decreases-choice
decreases-choice l = 8 * (weight (view l.condition.now) + (weight (view l.first.now) + weight (view l.second.now))) + 5

abbrev pub decreases-joined-loop-other : goal.decreases-joined-loop-other
decreases-joined-loop-other l = vec_len l.others

-- what is written, and the operands that are left
abbrev pub invariant-joined-loop-other : goal.invariant-joined-loop-other
invariant-joined-loop-other l =
    AreLeft l.self.names.now l.gate (weight (view l.left) + weight (view l.right)) (seen l.others.items) l.out
    (l.fn.out ++ text_of (join l.gate (laid l.self.names.now (view l.left)) (laid l.self.names.now (view l.right))).text)
