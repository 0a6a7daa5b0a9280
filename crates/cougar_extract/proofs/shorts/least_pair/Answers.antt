use Rattle.std.proofs.Common.{◌≡◌, ◌∙◌, ◌+◌, ◌-◌, ◌<◌, length, get_or, Some, arith}
use Rattle.std.proofs.lemmas.List.{length-set}
use Rattle.cougar_extract.proofs.ShortPairs.{next_turn, pair_turn}
use Rattle.cougar_extract.proofs.shorts.least_pair.Goals as goal

pub loop-k-preserved : goal.loop-k-preserved
loop-k-preserved c =
    let classes = c.args.classes.now in
    let next = c.loop-k.next.items in
    let k = c.loop-k.k - 1 in
    let more = c.loop-k-test.true in
    let inside = c.loop-k.invariant.inside in
    let many = c.loop-k.invariant.many in
    let is : c.loop-k.k ≡ k + 1 = omega (arith, more) in
    let low : get_or classes k 0 < c.args.count = c.requires k 0 (omega (arith, more, inside)) in
    let room : get_or classes k 0 < length next = omega (arith, low, many) in
    record {
      inside = omega (arith, inside);
      many = length-set next (get_or classes k 0) (Some k) ∙ many;
      next = next_turn classes c.loop-k.k k next is inside room c.loop-k.invariant.next;
      found = pair_turn classes c.loop-k.k k next is inside room c.loop-k.invariant.next c.index.result.now c.loop-k.found c.nearer-found.result c.index.ensures c.loop-k.invariant.found
          c.nearer-found.ensures;
    }
