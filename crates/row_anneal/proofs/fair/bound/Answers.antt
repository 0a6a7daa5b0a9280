use Rattle.std.proofs.Common.{arith, rules}
use Rattle.row_anneal.proofs.Counted.{widest_within, share_within}
use Rattle.row_anneal.proofs.fair.bound.Goals as goal

pub overflow_add-result-2 : goal.overflow_add-result-2
overflow_add-result-2 c =
    let a = widest_within c.args.columns.now in
    let b = share_within c.sum.result c.args.many c.requires.some in
    let d = c.sum.ensures in
    let e = c.widest.ensures in
    let f = c.requires.few in
    let n = c.requires.narrow in
    omega (arith, a, b, d, e, f, n)
