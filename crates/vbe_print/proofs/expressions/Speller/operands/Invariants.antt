use Rattle.bool_expr.specs.View.{view}
use Rattle.vbe_print.specs.Pieces.{weight, AreOperands}
use Rattle.vbe_print.proofs.Operands.{seen}
use Rattle.vbe_print.proofs.expressions.Speller.operands.Given as goal

abbrev pub invariant-loop-first : goal.invariant-loop-first
invariant-loop-first l =
    AreOperands l.self.names.now l.gate (view l.left) (view l.right) (view l.first) (seen l.others.items)

abbrev pub decreases-loop-first : goal.decreases-loop-first
decreases-loop-first l = weight (view l.first)
