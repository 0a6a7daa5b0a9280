use Rattle.std.proofs.Common.{◌+◌, ◌<◌, ℕ, length, get_or, ap, refl, ◌∙◌, arith}
use Rattle.std.proofs.lemmas.List.Elements.{All-get_or}
use Rattle.syf_encode.proofs.Reaching.{reach_more, reach_without}
use Rattle.syf_encode.proofs.adjacent.reach.Goals.{then-place-other, else-place-other}
use Rattle.syf_encode.proofs.adjacent.reach.Goals as goal

pub loop-neighbour-preserved : goal.loop-neighbour-preserved
loop-neighbour-preserved c =
    let numbers = c.args.numbers.now in
    let near = c.args.near.now in
    let i = c.loop-neighbour.neighbour-index in
    let l = c.loop-neighbour-test.true in
    let below : get_or near i 0 < length numbers = All-get_or (λ t. t < length numbers) near i 0 l c.requires.near in
    elim c.if-place-other.branch [
      | then-place-other w ↦
          let step = reach_more numbers near c.args.state c.args.other i (get_or near i 0) w.distance-sum.result l refl w.if-place-other.true w.distance-sum.ensures.value
          c.requires.below c.requires.state below in
          record {
            small = omega arith;
            same = w.sum-is ∙ ap (λ (k : ℕ). k + w.distance-sum.result) c.loop-neighbour.invariant.same ∙ step;
          }
      | else-place-other w ↦
          record {
            small = omega arith;
            same = w.sum-is ∙ c.loop-neighbour.invariant.same ∙ reach_without numbers near c.args.state c.args.other i (get_or near i 0) l refl w.if-place-other.false;
          }
    ]
