use Rattle.std.proofs.Common.{ℕ, List, length, refl, sym, ap, ◌∙◌, rules, arith}
use Rattle.row_anneal.proofs.Counted.{counted_once, all_counted, not_counted}
use Rattle.row_anneal.proofs.fair.hold_each.Goals as goal

pub returns-then-not-count_rows : goal.returns-then-not-count_rows
returns-then-not-count_rows c = (
  λ t. absurd (search (rules, t)),
  λ h. absurd (not_counted c.args.rows.now c.args.counts.now c.requires.none (c.if-not-count_rows.ensures.amiss (search rules)) h),
)

pub returns : goal.returns
returns c = (
  λ t. counted_once c.args.rows.now c.args.counts.now c.count_rows.new.counts c.requires.none c.count_rows.ensures.length (c.if-not-count_rows.ensures.counts (search rules)) (c.are_one.ensures.0 t),
  λ h. c.are_one.ensures.1 (all_counted c.args.rows.now c.args.counts.now c.count_rows.new.counts c.requires.none c.count_rows.ensures.length (c.if-not-count_rows.ensures.counts (search rules)) h),
)
