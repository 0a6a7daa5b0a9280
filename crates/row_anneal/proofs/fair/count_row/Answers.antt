use Rattle.std.proofs.Common.{inl, inr, length, get_or, ap, ◌≤◌, subst, rules, arith}
use Rattle.row_anneal.proofs.Counted.{amiss_here, at_any}
use Rattle.row_anneal.proofs.fair.count_row.Goals.{then-cell-counts-via-then-cell-counts, then-cell-counts-via-else-cell-counts+then-counts-cell-ne0}
use Rattle.row_anneal.proofs.fair.count_row.Goals as goal

pub returns-then-cell-counts-clause-amiss : goal.returns-then-cell-counts-clause-amiss
returns-then-cell-counts-clause-amiss c = λ t. elim c.then-cell-counts.branch [
  | then-cell-counts-via-then-cell-counts w ↦
      amiss_here c.args.row.now c.loop-cell.counts c.args.counts.now (length c.args.counts.now) c.loop-cell.cell-index (get_or c.args.row.now c.loop-cell.cell-index 0) c.loop-cell-test.true
      (let a = at_any c.args.row.now c.loop-cell.cell-index (get_or c.args.row.now c.loop-cell.cell-index 0) c.loop-cell-test.true in cc a) c.loop-cell.invariant
      (inl (let a = w.if-cell-counts.true in let b = c.loop-cell.auto.counts in omega (arith, a, b)))
  | then-cell-counts-via-else-cell-counts+then-counts-cell-ne0 w ↦
      amiss_here c.args.row.now c.loop-cell.counts c.args.counts.now (length c.args.counts.now) c.loop-cell.cell-index (get_or c.args.row.now c.loop-cell.cell-index 0) c.loop-cell-test.true
      (let a = at_any c.args.row.now c.loop-cell.cell-index (get_or c.args.row.now c.loop-cell.cell-index 0) c.loop-cell-test.true in cc a) c.loop-cell.invariant
      (inr (let a = w.if-counts-cell-ne0.true in omega (arith, a)))
]
