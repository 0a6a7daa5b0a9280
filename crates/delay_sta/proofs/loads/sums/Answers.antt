use Rattle.std.proofs.Common.{◌+◌, get_or, ap, arith, rules}
use Rattle.std.proofs.lemmas.List.{get_or_read}
use Rattle.delay_sta.proofs.Loading.{summed_step, summed_all}
use Rattle.delay_sta.proofs.loads.sums.Goals as goal

pub loop-k-preserved : goal.loop-k-preserved
loop-k-preserved c =
    let l = c.requires.inside c.loop-k.k 0 c.loop-k-test.true in
    let m = c.loop-k.invariant.many in
    summed_step c.args.capacitances.now c.args.classes.now c.loop-k.sums.items c.args.count c.loop-k.k c.index_mut.result.now (c.index_mut.result.now + c.from.result) c.loop-k.invariant c.requires.each c.loop-k-test.true
    (c.requires.inside c.loop-k.k 0 c.loop-k-test.true) (search rules)
    (get_or_read c.loop-k.sums.items (get_or c.args.classes.now c.loop-k.k 0) c.index_mut.result.now (omega (arith, l, m)) c.index_mut.ensures.value 0)
    (ap (λ v. c.index_mut.result.now + v) c.from.ensures)

pub returns-clause-sums : goal.returns-clause-sums
returns-clause-sums c = summed_all c.args.capacitances.now c.args.classes.now c.loop-k.sums.items c.args.count c.loop-k.k c.requires.each c.loop-k-test.false c.loop-k.invariant
