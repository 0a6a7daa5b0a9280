use Rattle.std.proofs.Common.{◌+◌, sym, ◌∙◌, subst, arith}
use Rattle.net_core.proofs.Least.{LeastSoFar, least_first, least_then, least_else, compared, least_of_all}
use Rattle.net_core.proofs.cycle.least_place.Goals.{then-is_lt, else-is_lt}
use Rattle.net_core.proofs.cycle.least_place.Goals as goal

pub loop-k-init : goal.loop-k-init
loop-k-init c = least_first c.args.names.now c.requires

pub loop-k-preserved : goal.loop-k-preserved
loop-k-preserved c =
    let names = c.args.names.now in
    let k = c.loop-k.k in
    let least = c.loop-k.least in
    let low = c.loop-k-test.true in
    let test = compared names k least c.index-names-k.result c.index-names-least.result c.compare.result (omega (arith, low)) c.loop-k.invariant.within c.index-names-k.is c.index-names-least.is c.compare.ensures in
    elim c.if-is_lt.branch [
      | then-is_lt w ↦ subst (λ i. LeastSoFar names i (k + 1)) (sym w.least-is) (least_then names least k c.loop-k.invariant (omega (arith, low)) (sym test ∙ sym c.is_lt.ensures ∙ w.if-is_lt.true))
      | else-is_lt w ↦ subst (λ i. LeastSoFar names i (k + 1)) (sym w.least-is) (least_else names least k c.loop-k.invariant (sym test ∙ sym c.is_lt.ensures ∙ w.if-is_lt.false))
    ]

pub returns-clause-least : goal.returns-clause-least
returns-clause-least c = least_of_all c.args.names.now c.loop-k.least c.loop-k.k c.loop-k.invariant (omega (arith, c.loop-k-test.false))
