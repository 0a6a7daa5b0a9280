use Rattle.std.proofs.Common.{◌<◌, ℕ, List, refl, subst, arith}
use Rattle.sym_shapes.specs.declared.search.Step.{Step}
use Rattle.sym_shapes.specs.Search.{step}
use Rattle.sym_shapes.specs.Chain.{IsChain}
use Rattle.sym_shapes.proofs.Ways.{way_on}
use Rattle.sym_shapes.proofs.search.way.Goals as goal

pub loop-at-preserved : goal.loop-at-preserved
loop-at-preserved c =
    let steps : List Step = c.args.steps.now in
    let at : ℕ = c.loop-at.at in
    let inv = c.loop-at.invariant in
    let pos : 0 < at = omega (arith, c.loop-at-test.true) in
    let less : (step steps at).next < at = c.requires.falls at pos inv.low in
    record {
      low = omega (arith, less, inv.low);
      so_far = rw c.in_ok-push-2.ensures.items (way_on steps c.loop-at.places.items c.args.start at (step steps at).next c.requires.falls inv.low c.loop-at-test.true refl inv.so_far);
    }

pub returns : goal.returns
returns c = λ shapes over.
    let steps : List Step = c.args.steps.now in
    subst (λ (x : ℕ). IsChain shapes c.loop-at.places.items (step steps c.args.start).place (step steps x).place) c.loop-at-test.false
    (c.loop-at.invariant.so_far.chain shapes over)
