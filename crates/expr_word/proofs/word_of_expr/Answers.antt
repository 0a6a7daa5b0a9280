use Rattle.std.proofs.Common.{◌≡◌, ◌+◌, ℕ, Bool, List, sym, ◌∙◌, ap, subst, arith}
use Rattle.bool_expr.specs.Expression.{val}
use Rattle.bool_expr.specs.View.{view}
use Rattle.truth_tab.proofs.Filling.{Filled, filled_set, filled_skip, filled_value}
use Rattle.expr_word.specs.Rows.{row_value}
use Rattle.expr_word.proofs.Bits.{bits_back}
use Rattle.expr_word.proofs.word_of_expr.Goals as goal
use Rattle.expr_word.proofs.word_of_expr.Goals.{then-value_in_row, else-value_in_row}

pub loop-row-preserved : goal.loop-row-preserved
loop-row-preserved c =
    let f : ℕ → Bool = λ n. row_value (view c.args.e.now) c.args.inputs n in
    elim c.if-value_in_row.branch [
      | then-value_in_row w ↦ subst (λ (v : ℕ). Filled f v (c.loop-row.row + 1)) (sym w.word-is)
          (filled_set f c.loop-row.word c.loop-row.row c.loop-row-test.true (sym c.value_in_row.ensures ∙ w.if-value_in_row.true) c.loop-row.invariant)
      | else-value_in_row w ↦ subst (λ (v : ℕ). Filled f v (c.loop-row.row + 1)) (sym w.word-is)
          (filled_skip f c.loop-row.word c.loop-row.row (sym c.value_in_row.ensures ∙ w.if-value_in_row.false) c.loop-row.invariant)
    ]

pub returns : goal.returns
returns c =
    let f : ℕ → Bool = λ n. row_value (view c.args.e.now) c.args.inputs n in
    let end : c.loop-row.row ≡ 64 = omega arith in
    λ w h. filled_value f c.loop-row.word 6 (subst (λ (n : ℕ). Filled f c.loop-row.word n) end c.loop-row.invariant) w (omega arith)
    ∙ ap (λ (bs : List Bool). val (view c.args.e.now) bs) (bits_back w c.args.inputs h c.requires.few)
