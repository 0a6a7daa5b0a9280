use Rattle.std.proofs.Common.{◌≡◌, ◌++◌, length}
use Rattle.bool_expr.specs.Expression.{IsOver}
use Rattle.bool_expr.specs.View.{view}
use Rattle.spell_theory.specs.Layout.{text_of}
use Rattle.vbe_print.specs.Expressions.{value_layout}
use Rattle.vbe_print.specs.Pieces.{weight}
use Rattle.vbe_print.proofs.expressions.Speller.value.Given as goal

-- what is written, and the text of what is left
abbrev pub invariant-loop-rest : goal.invariant-loop-rest
invariant-loop-rest l = record {
  over : IsOver (view l.rest) (length l.self.names.now);
  same : l.out ++ text_of (value_layout l.self.names.now (view l.rest)) ≡ l.fn.out ++ text_of (value_layout l.self.names.now (view l.e));
}

abbrev pub decreases-loop-rest : goal.decreases-loop-rest
decreases-loop-rest l = weight (view l.rest)
