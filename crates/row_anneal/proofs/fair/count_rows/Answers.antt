use Rattle.std.proofs.Common.{ℕ, List, ◌≡◌, ◌≤◌, Bool, true, false, IsTrue, not, map, length, slice_index, ◌+◌, drop, refl, ap, subst, rules, arith}
use Rattle.row_meaning.specs.Rows.{times_in, times}
use Rattle.row_fill.proofs.Filling.{items}
use Rattle.row_anneal.specs.Amiss.{IsAmiss}
use Rattle.row_anneal.proofs.Counted.{still_amiss, times_at}
use Rattle.row_anneal.proofs.fair.count_rows.Goals as goal

pub returns-then-not-count_row-clause-amiss : goal.returns-then-not-count_row-clause-amiss
returns-then-not-count_row-clause-amiss c = λ t.
    let amiss = c.if-not-count_row.ensures.amiss (search rules) in
    let long = c.loop-row.auto.counts in
    let more : (d : ℕ) → slice_index c.loop-row.counts d + times_in c.deref.result.now d ≤ slice_index c.args.counts.now d + times (map items c.args.rows.now) d = λ d.
    (let a = times_at c.args.rows.now c.loop-row.row-index c.row-item.result d c.loop-row-test.true c.row-item.is in
    let b = c.loop-row.invariant d in
    let e = ap (λ (row : List ℕ). times_in row d) c.deref.ensures.value in
    omega (arith, a, b, e)) in
    still_amiss (length c.args.counts.now) (λ d. slice_index c.loop-row.counts d + times_in c.deref.result.now d) (λ d. slice_index c.args.counts.now d + times (map items c.args.rows.now) d)
    more (subst (λ (n : ℕ). IsAmiss n (λ d. slice_index c.loop-row.counts d + times_in c.deref.result.now d)) long amiss)
