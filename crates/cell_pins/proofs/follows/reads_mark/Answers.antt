use Rattle.std.proofs.Common.{◌≡◌, ◌∙◌, ap, sym, length, take, arith}
use Rattle.std.proofs.Math.Seq.{take-length}
use Rattle.std.specs.List.{list_any}
use Rattle.std.proofs.lemmas.List.Folds.{list_any_at}
use Rattle.bool_expr.specs.Expression.{variables, bit}
use Rattle.bool_expr.specs.View.{view}
use Rattle.cell_pins.proofs.Starts.{any_met, met_low}
use Rattle.cell_pins.proofs.follows.reads_mark.Goals as goal

pub bounds-marks-k : goal.bounds-marks-k
bounds-marks-k c =
    met_low (view c.args.e.now) (length c.args.marks.now) c.as_slice-k-items.result.now c.loop-k.k-index c.requires (c.as_slice-k-items.ensures ∙ c.in_ok-vars.ensures)
    (omega (arith, c.loop-k-test.true))

pub returns-then-marks-k : goal.returns-then-marks-k
returns-then-marks-k c =
    sym (sym (any_met (bit c.args.marks.now) (variables (view c.args.e.now))) ∙ ap (list_any (bit c.args.marks.now)) (sym (c.as_slice-k-items.ensures ∙ c.in_ok-vars.ensures))
    ∙ list_any_at (bit c.args.marks.now) c.as_slice-k-items.result.now c.loop-k.k-index 0 (omega (arith, c.loop-k-test.true)) c.if-marks-k.true)

pub returns : goal.returns
returns c =
    let ended : c.loop-k.k-index ≡ length c.as_slice-k-items.result.now = omega (arith, c.loop-k-test.false, c.loop-k.auto.k-index-end) in
    let all : take c.loop-k.k-index c.as_slice-k-items.result.now ≡ c.as_slice-k-items.result.now = ap (λ n. take n c.as_slice-k-items.result.now) ended ∙ take-length c.as_slice-k-items.result.now in
    sym (sym (any_met (bit c.args.marks.now) (variables (view c.args.e.now))) ∙ ap (list_any (bit c.args.marks.now)) (sym (c.as_slice-k-items.ensures ∙ c.in_ok-vars.ensures))
    ∙ ap (list_any (bit c.args.marks.now)) (sym all) ∙ c.loop-k.invariant)
