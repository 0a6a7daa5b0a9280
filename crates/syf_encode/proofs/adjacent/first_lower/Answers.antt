use Rattle.std.proofs.Common.{◌+◌, ◌<◌, ◌++◌, map, length, ap, sym, ◌∙◌, arith}
use Rattle.fsm_machine.specs.Encoding.{cost, first_lower}
use Rattle.syf_encode.proofs.Exchanges.{exchange, pairs_from, rows_from, rows_next, pairs_next, lowers_here, lowers_later, tells_cost}
use Rattle.syf_encode.proofs.adjacent.first_lower.Goals as goal

pub loop-second-init : goal.loop-second-init
loop-second-init c = record {
  kept = c.loop-first.invariant.kept;
  passed = λ edge is.
      (c.loop-first.invariant.passed edge is
      ∙ ap (first_lower (cost edge (length c.args.numbers.now)) c.args.numbers.now) (rows_next (length c.args.numbers.now) c.loop-first.first c.loop-first-test.true));
}

pub returns-then-lowers-clause-value : goal.returns-then-lowers-clause-value
returns-then-lowers-clause-value c = λ edge is.
    (let numbers = c.args.numbers.now in
    let n = length numbers in
    let i = c.loop-first.first in
    let j = c.loop-second.second in
    let l : j < n = (let same = ap length c.loop-first.invariant.kept in omega arith) in
    sym (c.loop-second.invariant.passed edge is
    ∙ lowers_here (cost edge n) numbers (pairs_from n i j ++ rows_from n (i + 1)) (pairs_from n i (j + 1) ++ rows_from n (i + 1)) (exchange i j)
    (pairs_next n i j (rows_from n (i + 1)) l)
    (tells_cost edge numbers c.loop-second.numbers (exchange i j) (map (λ v. v.items) c.args.near.now) _ c.loop-second.invariant.kept (omega arith) l is c.if-lowers.ensures.value)))

pub loop-second-preserved : goal.loop-second-preserved
loop-second-preserved c =
    let numbers = c.args.numbers.now in
    let n = length numbers in
    let i = c.loop-first.first in
    let j = c.loop-second.second in
    let l : j < n = (let same = ap length c.loop-first.invariant.kept in omega arith) in
    record {
      kept = c.lowers.ensures.same ∙ c.loop-second.invariant.kept;
      passed = λ edge is.
          (c.loop-second.invariant.passed edge is
          ∙ lowers_later (cost edge n) numbers (pairs_from n i j ++ rows_from n (i + 1)) (pairs_from n i (j + 1) ++ rows_from n (i + 1)) (exchange i j)
          (pairs_next n i j (rows_from n (i + 1)) l)
          (tells_cost edge numbers c.loop-second.numbers (exchange i j) (map (λ v. v.items) c.args.near.now) _ c.loop-second.invariant.kept (omega arith) l is c.if-lowers.ensures.value));
    }
